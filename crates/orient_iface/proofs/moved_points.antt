pub mod Valued
pub mod Sourced
pub mod Routed
