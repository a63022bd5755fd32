-- The table of nettings, by computation.
pub mod Balances
