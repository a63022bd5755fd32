-- Laws of the loops, then laws for callers.
pub mod Bits
pub mod Passes
pub mod Accepted
