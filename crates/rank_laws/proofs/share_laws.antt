pub mod Own
pub mod Owners
pub mod Vertices
pub mod Packed
mod ShareRows
