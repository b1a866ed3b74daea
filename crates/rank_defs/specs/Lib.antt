pub mod Ranks
pub mod Spread
pub mod Home
