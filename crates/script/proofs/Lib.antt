-- Laws that belong to no one function.
pub mod Answering
pub mod Lending
pub mod Ways
pub mod Printing
pub mod Reading
pub mod Theorems
pub mod Agreement
pub mod Written
pub mod WayOn
pub mod Witnesses
pub mod Claims
