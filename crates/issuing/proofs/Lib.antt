pub mod Filed
pub mod Issues
