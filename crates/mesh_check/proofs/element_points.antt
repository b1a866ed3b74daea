pub mod Images
pub mod Containing
pub mod OnPoints
pub mod Setting
pub mod Reading
pub mod Cells
pub mod Answering
pub mod Marking
