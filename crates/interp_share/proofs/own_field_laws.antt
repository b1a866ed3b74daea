pub mod Points
pub mod Forests
pub mod Totals
pub mod Words
pub mod Given
