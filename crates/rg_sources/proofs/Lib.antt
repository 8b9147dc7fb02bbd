-- The lemmas that the answers of rg_sources use; those with pub are for the crates above.
pub mod Meaning
pub mod Read
mod Examples
mod Opened
