pub mod Bounds
pub mod FormLaws
pub mod Results
pub mod ListedLaws
