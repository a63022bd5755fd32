-- Worked cases: nothing to believe, but what to hold a rule against.
pub mod Rows
pub mod Starts
pub mod Openings
pub mod Forms
pub mod Entering
pub mod Withdrawing
pub mod Matching
pub mod Asking
pub mod Words
pub mod Crowds
pub mod Day
pub mod Table
