pub mod ByWord
pub mod Entered
pub mod Counted
pub mod Sorted
pub mod PrintedWords
