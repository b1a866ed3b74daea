pub mod Counts
pub mod Flaws
pub mod Ranks
