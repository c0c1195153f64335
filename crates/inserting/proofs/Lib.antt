pub mod InsertLaws
pub mod Placing
