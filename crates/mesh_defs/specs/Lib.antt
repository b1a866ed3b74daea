pub mod Tables
pub mod Orientation
pub mod Mesh
pub mod Points
pub mod Sights
pub mod Diagram
pub mod RightMesh
