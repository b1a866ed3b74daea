pub mod Counts
pub mod Own
pub mod Picked
