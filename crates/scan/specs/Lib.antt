pub mod Parts
pub mod Rounding
pub mod Cursors
