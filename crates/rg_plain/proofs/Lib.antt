-- Lemmas on the machine that never frees; that with pub is for crates above.
pub mod Rows
mod Statements
pub mod Runs
pub mod Behind
