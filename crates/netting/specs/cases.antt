-- Worked cases: nothing to believe, but what to hold a rule against.
pub mod Balances
