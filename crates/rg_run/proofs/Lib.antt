-- The lemmas that the answers of rg_run use; those with pub are open to crates above.
mod Holds
mod Shown
pub mod Sound
mod Output
mod Report
pub mod Run
mod Turn
mod Ask
mod Since
mod SinceTurn
mod State
mod Step
mod None
mod Collects
mod Collected
mod Loop
mod Moved
