pub mod Batch
pub mod BatchStatements
pub mod Examples
