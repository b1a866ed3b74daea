pub mod Leasts
pub mod Meetings
