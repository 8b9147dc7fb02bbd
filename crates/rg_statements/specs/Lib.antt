-- The definition that clauses of rg_statements name, and Inner, which may not be cited above (docs/language.md, "Steps").
pub mod Assignments
pub mod Inner
