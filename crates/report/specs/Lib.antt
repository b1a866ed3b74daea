pub mod Delivery
pub mod Heads
pub mod Refusals
pub mod report_lines
