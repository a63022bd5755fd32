-- What the contracts of inner functions cite: nothing to believe.
pub mod Certificates
pub mod Kinds
pub mod LogFits
pub mod Records
