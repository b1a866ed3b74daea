pub mod Added
pub mod Putting
pub mod Filling
pub mod Segments
pub mod Walks
