pub mod Words
pub mod Numbers
pub mod Points
pub mod Steps
