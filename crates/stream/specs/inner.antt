-- What the contracts of inner functions cite: nothing to believe.
pub mod Progress
pub mod Holding
