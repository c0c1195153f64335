pub mod ConditionLaws
pub mod EndsLaws
pub mod RecordEndsLaws
pub mod MarkLaws
