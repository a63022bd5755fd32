-- What the code's proofs share.
pub mod Known
pub mod Leaving
pub mod Calls
pub mod Opening
pub mod Matching
pub mod Fit
