pub mod TwoRoots
