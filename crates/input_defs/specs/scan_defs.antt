pub mod Lines
pub mod Items
pub mod Quotes
pub mod Steps
pub mod Numbers
