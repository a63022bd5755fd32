-- What the contracts of inner functions cite: nothing to believe.
pub mod Signers
pub mod Lists
