pub mod SignedWords
