pub mod Closure
pub mod Labels
pub mod Fields
