pub mod Chart
pub mod Cones
pub mod Strata
