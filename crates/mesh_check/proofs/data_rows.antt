pub mod KeptRows
pub mod Numbers
