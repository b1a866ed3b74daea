pub mod Words
pub mod Conditions
pub mod Fills
pub mod Folds
pub mod Loads
pub mod Broadcasts
