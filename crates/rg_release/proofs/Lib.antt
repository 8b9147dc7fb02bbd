-- The lemmas that the answers of rg_release use; none is for crates above.
mod CellsFreed
mod GroveKept
mod BelowLeft
mod OneReleased
mod AllReleased
mod Examples
