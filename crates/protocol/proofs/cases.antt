-- The table of cases, by computation.
pub mod Rows
pub mod WayOn
pub mod Table
