-- The script program as a whole: what text comes out for what bytes (document 01, "Script program").
pub mod Output
pub mod Stream
pub mod Turns
pub mod Theorems
pub mod Agreement
pub mod WayOn
pub mod cases
pub mod Claims
pub mod inner
