pub mod Giving
pub mod MadeNumbers
pub mod BuiltSteps
