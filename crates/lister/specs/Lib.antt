pub mod Reading
pub mod Listing
