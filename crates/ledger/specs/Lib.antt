pub mod Called
pub mod Coding
pub mod ByCode
pub mod Claims
