-- What callers cite: collections and what is reached, the active region, returns, words, and how many objects were made.
pub mod Word
pub mod High
pub mod Return
pub mod Collect
pub mod Gather
pub mod Shift
pub mod Slid
pub mod Part
pub mod Active
pub mod ReachPath
pub mod ReachCount
pub mod ReachShown
pub mod ReachRoot
pub mod ReachHeld
pub mod Reach
pub mod SlidReach
