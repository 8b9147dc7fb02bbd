-- Lemmas on what the tests of this crate build; none is for crates above.
mod TopsMade
mod CellsTraced
