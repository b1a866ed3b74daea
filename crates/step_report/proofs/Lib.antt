pub mod Counting
pub mod Entering
pub mod Going
pub mod Paging
pub mod Placing
pub mod Summing
pub mod Tailing
