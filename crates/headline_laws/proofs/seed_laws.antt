pub mod Vertices
pub mod Parts
pub mod Asking
pub mod Owners
pub mod SeedRows
