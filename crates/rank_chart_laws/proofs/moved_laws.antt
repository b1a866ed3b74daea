pub mod Places
pub mod Moved
pub mod Labels
pub mod Forests
pub mod Ranks
