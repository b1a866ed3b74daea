pub mod Course
pub mod seed_laws
pub mod step_laws
