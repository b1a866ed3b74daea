pub mod Parts
pub mod Flags
pub mod Marks
