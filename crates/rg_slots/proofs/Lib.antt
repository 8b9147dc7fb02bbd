-- Lemmas on what cowns have.
mod Taken
mod ByFields
