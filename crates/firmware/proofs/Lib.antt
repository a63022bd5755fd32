pub mod Panel
pub mod Waiting
pub mod Balance
