-- The definitions that the clauses of rg_when name (docs/promises.md, "The headline").
pub mod Scheduled
pub mod Inner
