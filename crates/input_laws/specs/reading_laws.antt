pub mod Lexemes
pub mod Going
pub mod Blocks
