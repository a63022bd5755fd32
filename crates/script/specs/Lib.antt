-- A script line and its answer (document 01, "Script program").
pub mod Lines
pub mod Session
pub mod Agreement
pub mod Text
pub mod Theorems
pub mod WayOn
pub mod Claims
pub mod inner
