pub mod ReadingLaws
pub mod ListingLaws
