pub mod ScanLaws
pub mod VerdictLaws
