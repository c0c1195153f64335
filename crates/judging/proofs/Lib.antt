pub mod LastFactors
pub mod Pairs
pub mod Turns
