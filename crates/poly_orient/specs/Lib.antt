pub mod Group
pub mod Symmetries
pub mod Rules
