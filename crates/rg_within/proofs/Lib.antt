-- Lemmas on what the grammar counts, and on what is read of a source.
mod Kept
mod SpeltFew
mod Tokens
mod Spent
mod Pieces
mod Reading
mod Whole
