pub mod Cutting
pub mod FoldLaws
pub mod BatchLaws
