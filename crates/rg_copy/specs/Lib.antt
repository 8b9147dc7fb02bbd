-- The definitions that the clauses of rg_copy name, and Inner, which may not be cited above (docs/architecture.md, "A manager that moves its cells").
pub mod Slid
pub mod Inner
