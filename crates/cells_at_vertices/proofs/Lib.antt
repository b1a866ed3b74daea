mod Cells
mod Ranks
mod Copies
mod Contained
mod Spread
