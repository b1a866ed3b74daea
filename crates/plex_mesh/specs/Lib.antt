pub mod Spans
pub mod Stored
pub mod Meshes
pub mod Right
