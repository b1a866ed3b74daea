pub mod Lengths
pub mod Covers
