-- For callers: what a passed test tells, and how a call goes from one need to the next.
pub mod Ready
pub mod Needed
pub mod Passing
