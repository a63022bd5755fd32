-- Demand 3: the invariant, that every call keeps it, and what follows.
pub mod Meeting
pub mod Safety
pub mod Moves
pub mod Acts
pub mod Quorums
pub mod SafeParts
pub mod SafeCalls
pub mod SafePrepare
pub mod SafeEnds
pub mod Reached
pub mod Agreement
