pub mod Firsts
pub mod Turns
pub mod Entries
pub mod Containing
pub mod Vertices
pub mod Keys
