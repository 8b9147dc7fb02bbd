-- The lemmas that the answers of rg_begin use; those with pub are for crates above.
mod Lists
mod Loaded
mod Givens
mod Owning
mod Alone
mod Standing
mod Starting
mod Beside
pub mod Callers
