pub mod Filled
pub mod Known
pub mod AllRanks
pub mod AtHand
