pub mod VisitLaws
pub mod WalkLaws
