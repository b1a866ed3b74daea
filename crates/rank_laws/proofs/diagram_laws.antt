pub mod Parts
pub mod Edges
pub mod Cones
pub mod Twists
pub mod Whole
