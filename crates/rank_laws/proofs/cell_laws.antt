pub mod Once
pub mod Apart
pub mod Cells
pub mod Adding
