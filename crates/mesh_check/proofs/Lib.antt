pub mod Twists
pub mod Verdicts
pub mod Assembled
pub mod Sections
pub mod Whole
