-- To believe: the entries, the rules of the calls on them, the histories of these, and what is said of all of it.
pub mod Entries
pub mod Waiting
pub mod Arrivals
pub mod Theorems
pub mod cases
pub mod Claims
