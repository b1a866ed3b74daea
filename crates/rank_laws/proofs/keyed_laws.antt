pub mod Strata
pub mod Views
pub mod Readings
pub mod Orders
pub mod Unions
mod KeyedRows
