-- What is promised, in the order of document 01: its memory, its calls, lists of calls; then the theorems' statements, those on turns, on
-- repeats, on a pool's own steps, on kept heights, on power cuts and on a way on of document 02 among them; and the page of claims, which has
-- them all. The table of cases stands apart.
pub mod Memory
pub mod Ancestry
pub mod Form
pub mod Certificates
pub mod Leader
pub mod Counter
pub mod Quorum
pub mod Outcome
pub mod FirstNeeds
pub mod Calls
pub mod Runs
pub mod History
pub mod Theorems
pub mod Agreement
pub mod Repeats
pub mod Steps
pub mod Heights
pub mod Cuts
pub mod WayOn
pub mod cases
pub mod Claims
pub mod inner
