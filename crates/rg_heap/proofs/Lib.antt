-- The lemmas that the answers of rg_heap use; those with pub are open to crates above.
mod Readers
mod Kin
mod Alike
mod Grows
mod Comes
mod Fields
mod Written
mod Marked
mod OwnedChained
mod Ended
mod Left
mod Orphaned
mod Slides
mod Moved
mod Holders
mod Bridged
mod Gives
pub mod Callers
