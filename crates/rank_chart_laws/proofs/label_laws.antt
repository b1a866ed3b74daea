pub mod SameSets
pub mod Marked
