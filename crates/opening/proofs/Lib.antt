pub mod Blocks
pub mod Opens
