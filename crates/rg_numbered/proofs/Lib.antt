-- Lemmas on bodies with numbers in place of names; those with pub are for crates above.
pub mod Classes
pub mod Scopes
mod Expressions
pub mod Behind
pub mod Statements
pub mod Bodies
mod Examples
