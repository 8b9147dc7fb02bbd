-- Lemmas on what the machine keeps and on values; that with pub is for crates above.
mod Expressions
pub mod Item
mod Rows
mod Statements
