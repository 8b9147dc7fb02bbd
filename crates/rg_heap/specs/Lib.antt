-- The definitions that the clauses of rg_heap name, and Inner, which may not be cited above (docs/architecture.md, "The heap").
pub mod Parts
pub mod Answers
pub mod Reads
pub mod Changes
pub mod Writes
pub mod Ends
pub mod Opened
pub mod Collects
pub mod Slides
pub mod Moves
pub mod Gives
pub mod Inner
