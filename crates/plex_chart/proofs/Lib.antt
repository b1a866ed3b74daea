pub mod Chart
pub mod Facets
pub mod Flat
pub mod Orientations
pub mod Places
