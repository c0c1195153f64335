pub mod EntryLaws
pub mod FateLaws
pub mod Writing
