pub mod Eights
pub mod Examples
