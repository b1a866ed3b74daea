pub mod Places
pub mod Marks
pub mod OneRank
pub mod Stepping
pub mod AllRanks
pub mod TwistKeys
