pub mod Sets
pub mod Between
pub mod Marked
