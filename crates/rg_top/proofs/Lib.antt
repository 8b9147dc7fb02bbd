-- The lemmas that the answers of rg_top use; none is for crates above.
mod Settled
mod NoteLines
mod Answer
mod Each
mod Packed
