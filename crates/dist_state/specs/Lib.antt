pub mod Local
pub mod Whole
pub mod scatter_state
pub mod shared_state
