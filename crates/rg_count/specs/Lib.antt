-- The definitions that the clauses of rg_count name, and Inner, which may not be cited above (docs/architecture.md, "Counting").
pub mod Counted
pub mod Inner
