pub mod Placed
pub mod Seen
pub mod Assembly
pub mod Ranks
pub mod held_points
pub mod rank_drawings
pub mod arrangement_laws
