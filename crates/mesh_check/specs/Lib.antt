pub mod Partly
pub mod element_places
pub mod mesh_vertices
pub mod element_points
pub mod data_rows
pub mod accepted_laws
