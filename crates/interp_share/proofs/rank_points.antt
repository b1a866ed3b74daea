pub mod Small
pub mod Pushing
pub mod Fitting
pub mod Own
pub mod Filling
