-- The table of cases, by computation.
pub mod Rows
pub mod Crowds
pub mod Day
pub mod Table
