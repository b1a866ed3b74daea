pub mod Spread
pub mod Whole
