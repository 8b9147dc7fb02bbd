-- The definitions that the clauses of rg_sched_atomic name (docs/architecture.md, "Schedules").
pub mod Numbers
pub mod Contents
pub mod Behaviours
pub mod Phases
pub mod Settings
pub mod Atomic
pub mod Events
pub mod Laws
