pub mod Listed
pub mod Meets
pub mod Counted
pub mod Room
pub mod Placed
pub mod Numbered
