pub mod Rounds
pub mod Lines
pub mod StepText
pub mod Picks
pub mod Headline
pub mod Tops
