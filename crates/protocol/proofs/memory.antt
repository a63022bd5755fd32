-- The memory: its words, its form, blocks, certificates, and what changes leave.
pub mod Words
pub mod Ancestors
pub mod Blocks
pub mod Formed
pub mod Changes
pub mod Filing
pub mod Keeps
pub mod Lists
pub mod Opened
pub mod Alike
