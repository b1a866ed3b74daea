pub mod Tables
pub mod Charts
pub mod Descents
pub mod Agreements
pub mod Cells
mod ReachRows
