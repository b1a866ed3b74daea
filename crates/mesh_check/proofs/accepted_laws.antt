pub mod Filtered
pub mod WithoutLoose
