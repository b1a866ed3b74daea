pub mod Playing
pub mod Seats
pub mod Moves
pub mod Ending
