pub mod FlatRows
