pub mod FlatRows
pub mod WholeSections
