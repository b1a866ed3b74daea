pub mod Listing
pub mod Assembled
pub mod Seeded
