pub mod Seen
pub mod Own
