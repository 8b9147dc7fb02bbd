-- Lemmas on the steps of statements; that with pub is for crates above.
mod Rows
mod Statements
pub mod Step
