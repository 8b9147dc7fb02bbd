-- The definitions that the clauses of rg_cells name, and Inner, which may not be cited above (docs/architecture.md, "Cells").
pub mod Table
pub mod Replacing
pub mod Inner
