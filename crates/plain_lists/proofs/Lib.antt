pub mod Each
pub mod Filters
pub mod Finding
pub mod Below
pub mod Sorted
pub mod Least
