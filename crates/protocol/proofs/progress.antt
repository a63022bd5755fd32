-- There is always a way on (document 02, #109): calls asked one after the other, what an issuing call gives where the log has room, a call by
-- each of some replicas, the turns of f+1 views, the six parts of the way, and the theorems.
pub mod Asking
pub mod Issues
pub mod Each
pub mod Parts
pub mod Turns
pub mod Made
pub mod Way
pub mod WayOn
