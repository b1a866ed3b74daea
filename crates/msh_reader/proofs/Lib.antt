pub mod Going
pub mod NumberSets
pub mod Earlier
pub mod ElementRows
pub mod Saying
pub mod TakenSections
pub mod Options
pub mod WholeFiles
