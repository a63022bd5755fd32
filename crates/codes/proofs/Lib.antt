pub mod Aside
pub mod Commits
pub mod Readable
