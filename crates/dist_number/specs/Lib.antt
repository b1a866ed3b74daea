pub mod Asked
pub mod Drawn
pub mod Places
pub mod dist_trace
