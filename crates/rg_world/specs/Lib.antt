-- The definitions that the clauses of rg_world name (docs/architecture.md, "Worlds").
pub mod Asking
pub mod Standing
pub mod Worlds
pub mod Inner
