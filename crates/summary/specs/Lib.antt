pub mod Summary
pub mod Tallies
pub mod SummaryStatements
pub mod Examples
