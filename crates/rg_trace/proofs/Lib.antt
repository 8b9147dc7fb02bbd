-- The lemmas that the answers of rg_trace use; those with pub are open to crates above.
mod Marks
mod OrphansFound
mod CellsSwept
pub mod PartsJoined
mod GroveKept
pub mod StepsBound
pub mod LocalRoots
