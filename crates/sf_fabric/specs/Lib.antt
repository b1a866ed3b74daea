pub mod Cut
pub mod Kept
pub mod Stored
pub mod Complete
pub mod orders
pub mod replays
pub mod script
