pub mod Images
pub mod Facets
pub mod Closures
pub mod Reaching
pub mod Stars
