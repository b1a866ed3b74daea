pub mod Dim
pub mod FlatRows
pub mod DataFields
