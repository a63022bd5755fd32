-- What follows from the rule, and what the code's proofs share.
pub mod Signed
pub mod Sums
pub mod Chains
pub mod Nettings
pub mod Theorems
pub mod Moving
pub mod Tallying
pub mod Answering
pub mod Refusing
pub mod cases
pub mod Witnesses
pub mod Claims
