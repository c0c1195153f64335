pub mod Listing
pub mod Writing
pub mod Examples
pub mod Form
pub mod FormExamples
