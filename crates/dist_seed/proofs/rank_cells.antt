pub mod Chosen
pub mod Placed
