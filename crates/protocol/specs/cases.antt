-- Worked cases: nothing to believe, but what to hold a rule against.
pub mod Rows
pub mod Starts
pub mod Edges
pub mod Turns
pub mod Repeats
pub mod Steps
pub mod KeptSteps
pub mod Heights
pub mod Cuts
pub mod Words
pub mod Choices
pub mod WayOn
pub mod Stops
pub mod Table
