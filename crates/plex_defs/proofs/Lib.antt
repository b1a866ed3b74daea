pub mod Meshes
pub mod Arranged
pub mod ClosureRows
pub mod RightRows
