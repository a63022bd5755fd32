-- Laws of counts, of writing and of reading, then the theorems that specs/Theorems.antt states.
pub mod Booleans
pub mod Counts
pub mod Reading
pub mod Writing
pub mod Theorems
pub mod Claims
