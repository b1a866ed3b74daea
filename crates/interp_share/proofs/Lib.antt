pub mod Ranked
pub mod Stepping
pub mod Whole
