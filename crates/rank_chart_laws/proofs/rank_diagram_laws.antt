pub mod Charted
pub mod Inside
pub mod Coned
pub mod Fitting
