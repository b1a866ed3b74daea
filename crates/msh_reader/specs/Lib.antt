pub mod Going
pub mod NumberSets
pub mod Views
pub mod Headers
pub mod Taking
