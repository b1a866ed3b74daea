pub mod Sums
pub mod Places
pub mod Weights
pub mod Shared
pub mod Marks
pub mod FieldRows
