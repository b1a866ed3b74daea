pub mod Around
pub mod Shrinking
mod LayerRows
