pub mod Orders
pub mod Greatest
pub mod Offers
pub mod Told
pub mod OrderRows
