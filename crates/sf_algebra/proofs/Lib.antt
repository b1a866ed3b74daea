mod Steps
mod Fitting
mod Pieces
mod Searching
mod Noting
