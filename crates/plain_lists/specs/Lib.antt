pub mod Lists
pub mod Vectors
