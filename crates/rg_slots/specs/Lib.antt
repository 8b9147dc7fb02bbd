-- The definitions that the clauses of rg_slots name (docs/architecture.md, "Worlds").
pub mod Slots
