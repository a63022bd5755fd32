pub mod Calling
pub mod ByCode
pub mod Witnesses
pub mod Claims
