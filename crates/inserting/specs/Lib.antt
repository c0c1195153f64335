pub mod Entries
pub mod Inserting
