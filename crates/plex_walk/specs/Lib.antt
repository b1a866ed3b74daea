pub mod Supports
pub mod Entries
pub mod Filling
