pub mod Moves
pub mod Sames
