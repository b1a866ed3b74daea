pub mod LastRows
pub mod Rowing
