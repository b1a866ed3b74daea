mod Asking
pub mod SideBySide
mod Spelling
mod Steps
mod Values
