pub mod Drawn
pub mod Ranks
