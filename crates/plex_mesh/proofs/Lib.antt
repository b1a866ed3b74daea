pub mod Spans
pub mod Right
