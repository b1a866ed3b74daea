pub mod Gathered
pub mod Ones
