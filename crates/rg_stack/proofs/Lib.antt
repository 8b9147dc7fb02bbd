-- The lemmas by which the laws of rg_stack are proved; those with pub are for crates above.
pub mod Basics
mod Mirrors
mod Walks
mod Statements
mod Judgements
mod Refusals
mod Needs
pub mod Callers
mod Examples
