-- Repeats, cuts, a pool's own steps, kept heights: what document 02 asks beside.
pub mod Repeats
pub mod MadeAgain
pub mod Ages
pub mod Untested
pub mod Cuts
pub mod Steps
pub mod Heights
