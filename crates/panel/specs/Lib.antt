pub mod Panel
pub mod Theorems
pub mod Claims
