pub mod Steps
pub mod Filled
