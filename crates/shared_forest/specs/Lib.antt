pub mod Flags
pub mod sf_meet
