-- Laws that belong to no one function.
pub mod Limits
pub mod Fits
