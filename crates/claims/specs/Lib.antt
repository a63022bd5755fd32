-- To believe: everything that is claimed.
pub mod Claims
