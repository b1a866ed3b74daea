pub mod Wholes
pub mod Forests
pub mod Lower
pub mod Few
pub mod Right
pub mod Given
mod SetRows
pub mod ChartRows
