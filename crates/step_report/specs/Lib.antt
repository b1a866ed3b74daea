pub mod Conditions
pub mod Counts
pub mod Desks
pub mod Ghosts
pub mod Pages
pub mod Sums
pub mod Tails
