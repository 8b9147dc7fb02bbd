-- The lemmas by which the laws of rg_held are proved; those with pub are for crates above.
pub mod Lists
pub mod Places
mod Parts
mod Acts
mod Walks
pub mod Gather
mod Examples
mod Freed
pub mod Callers
