-- The definitions that the clauses of rg_queues name (docs/architecture.md, "Plans").
pub mod Queues
pub mod Inner
