pub mod Numbered
pub mod OneRound
pub mod KeysBack
mod HomeRows
