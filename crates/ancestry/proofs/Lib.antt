-- Where a walk up the parents may start, what it finds, and what it marks.
pub mod Fitting
pub mod Walks
pub mod Marking
pub mod Nearing
