pub mod SumLoop
pub mod ListLoop
