-- The line reader (document 01, "Script program").
pub mod inner
