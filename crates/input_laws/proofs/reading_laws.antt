pub mod Ahead
pub mod Quoting
pub mod Shapes
pub mod Readers
pub mod Going
pub mod Blocks
