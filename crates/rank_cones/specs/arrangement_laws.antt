pub mod Arrangements
pub mod Orders
pub mod Told
