pub mod Huge
pub mod Rows
