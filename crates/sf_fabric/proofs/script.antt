pub mod Ends
pub mod Scripted
pub mod Taken
