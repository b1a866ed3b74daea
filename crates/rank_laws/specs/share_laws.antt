pub mod Charts
pub mod Packed
