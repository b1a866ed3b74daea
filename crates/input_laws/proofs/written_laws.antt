pub mod NumberTexts
pub mod PlainLines
pub mod WrittenLines
pub mod WrittenBodies
pub mod WrittenFields
pub mod WrittenFiles
pub mod WrittenRows
