mod Names
mod Places
mod Ranks
mod Lone
mod Slotted
mod SlotWords
mod Agree
