pub mod Rising
pub mod Grids
pub mod Corners
pub mod Differ
pub mod Used
pub mod Made
