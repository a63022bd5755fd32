pub mod Panels
pub mod Theorems
pub mod Witnesses
pub mod Claims
