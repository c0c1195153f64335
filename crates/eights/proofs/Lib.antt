pub mod ZeroLaws
pub mod EightLaws
