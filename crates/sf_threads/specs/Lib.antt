pub mod Doing
pub mod Played
pub mod thread_rule
