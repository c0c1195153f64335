pub mod BufferLaws
pub mod PartLaws
pub mod GroupLaws
