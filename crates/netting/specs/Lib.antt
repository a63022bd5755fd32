pub mod Netting
pub mod Theorems
pub mod cases
pub mod Claims
pub mod inner
