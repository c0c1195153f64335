pub mod LineLaws
pub mod RecordLaws
