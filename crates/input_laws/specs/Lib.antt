pub mod Sublists
pub mod FaultLines
pub mod place_laws
pub mod word_laws
pub mod written_laws
pub mod reading_laws
pub mod command_laws
