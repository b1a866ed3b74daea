pub mod Orders
pub mod ByKeys
pub mod Once
pub mod Charts
