pub mod Appending
pub mod Delivering
pub mod Labels
pub mod Looping
pub mod Numbered
