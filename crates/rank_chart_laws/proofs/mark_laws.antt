pub mod Filled
pub mod Counting
pub mod Marks
