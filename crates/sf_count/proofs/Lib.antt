pub mod Conditions
pub mod Fits
