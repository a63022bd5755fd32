-- Tests: what they tell and what shows them, joined, in lists and below a count.
pub mod Booleans
pub mod Joined
pub mod Below
pub mod Ranges
