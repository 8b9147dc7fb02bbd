-- The definitions that the clauses of rg_sched name (docs/architecture.md, "Worlds").
pub mod Schedules
pub mod Asking
pub mod Running
pub mod Inner
