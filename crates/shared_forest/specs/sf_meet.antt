pub mod Named
pub mod SlotRoots
