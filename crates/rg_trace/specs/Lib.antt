-- The definitions that the clauses of rg_trace name, and Inner, which may not be cited above (docs/architecture.md, "Mark and sweep").
pub mod Collected
pub mod Marking
pub mod Orphans
pub mod Sweeping
pub mod Inner
