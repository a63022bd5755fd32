pub mod Views
pub mod Found
