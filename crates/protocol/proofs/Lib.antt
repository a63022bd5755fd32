-- What follows from the definitions: laws of their parts, then the theorems that the statements of specs/ name, the table of cases, uses of
-- statements at worked instances, and the proof of each claim.
pub mod logic
pub mod memory
pub mod calls
pub mod agreement
pub mod requests
pub mod progress
pub mod cases
pub mod Witnesses
pub mod Claims
