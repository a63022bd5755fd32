-- What the code's proofs share.
pub mod Tallies
pub mod Holding
pub mod Finding
pub mod Moving
