pub mod Steps
pub mod Begins
pub mod Numbers
pub mod Plain
pub mod Charted
pub mod Cones
pub mod Course
