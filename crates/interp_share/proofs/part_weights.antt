mod Seen
mod CellPoints
mod Adding
