pub mod Given
pub mod Standing
pub mod Tables
pub mod Adding
