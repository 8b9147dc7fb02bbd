-- The lemmas by which the laws are proved; those with pub are for crates above.
mod Stores
mod Rights
mod Statements
mod Steps
pub mod Runs
mod Examples
