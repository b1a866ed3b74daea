pub mod Marking
pub mod Listing
pub mod Using
