-- The worked scripts, and how the first goes on, by computation.
pub mod Scripts
pub mod WayOn
