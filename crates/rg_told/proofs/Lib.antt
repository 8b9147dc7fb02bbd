-- Lemmas on the program that a module tells; those with pub are for the crate above.
mod Bare
mod BareNames
mod Bounded
mod Numbered
pub mod Places
pub mod Tables
