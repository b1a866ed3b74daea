pub mod Few
pub mod Due
mod DueRows
