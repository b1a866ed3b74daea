pub mod Arrays
pub mod Places
pub mod Rows
pub mod Parts
pub mod Ends
pub mod Padding
pub mod Solids
pub mod Strata
