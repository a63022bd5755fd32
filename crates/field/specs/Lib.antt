-- The eight-column number (document 01, "Script program").
pub mod Digits
pub mod Field
pub mod Theorems
pub mod Claims
pub mod inner
