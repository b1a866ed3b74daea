pub mod Counting
pub mod Files
pub mod Known
pub mod Named
pub mod Room
pub mod Take
pub mod Waits
