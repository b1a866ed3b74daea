pub mod Done
pub mod Parts
pub mod Found
pub mod Legal
