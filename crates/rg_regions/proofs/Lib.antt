-- The lemmas that the answers of rg_regions use; those with pub are open to crates above.
mod Written
mod Entries
pub mod Callers
mod Examples
