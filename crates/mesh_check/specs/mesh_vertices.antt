pub mod FirstPlaces
pub mod Vertices
