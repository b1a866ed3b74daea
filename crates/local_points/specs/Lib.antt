pub mod Cells
pub mod Rows
pub mod Stored
pub mod Points
