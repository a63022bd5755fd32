-- What follows from the definitions: laws of words, of lists of entries and of the slice; then the theorems that the statements of specs/
-- name, uses of statements at worked instances, and the proof of each claim.
pub mod Words
pub mod Lists
pub mod Slices
pub mod Needs
pub mod Rules
pub mod Frames
pub mod Passes
pub mod Places
pub mod Histories
pub mod Ledgers
pub mod cases
pub mod Witnesses
pub mod Claims
