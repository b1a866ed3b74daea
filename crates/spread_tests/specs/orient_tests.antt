pub mod TwoShared
