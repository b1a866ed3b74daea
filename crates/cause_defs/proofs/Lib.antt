pub mod Rising
pub mod Appending
pub mod Reporting
