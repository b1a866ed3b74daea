pub mod Asked
pub mod Folds
pub mod Copies
pub mod slots
