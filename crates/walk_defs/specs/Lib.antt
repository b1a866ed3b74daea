pub mod Cones
pub mod step_defs
