-- The definitions that the clauses of rg_release name, and Inner, which may not be cited above (docs/architecture.md, "Release").
pub mod Released
pub mod Inner
