-- Laws of searching, comparing and filing.
pub mod Search
pub mod Equal
pub mod Filing
