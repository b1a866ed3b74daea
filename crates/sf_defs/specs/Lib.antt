pub mod Asks
pub mod PrintedOrder
pub mod Rounds
pub mod Script
pub mod Forest
pub mod slots
pub mod meeting
pub mod sums
