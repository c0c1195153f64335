pub mod NoteLaws
pub mod FirstCuts
pub mod Finding
