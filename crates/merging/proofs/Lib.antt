pub mod EntryLaws
pub mod JoinLaws
pub mod MergeLaws
pub mod FillLaws
