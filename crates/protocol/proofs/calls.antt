-- What holds of a rule, and of every single call.
pub mod Needs
pub mod Rules
pub mod LeavesForm
pub mod Frame
pub mod Unread
pub mod Values
pub mod Leaders
