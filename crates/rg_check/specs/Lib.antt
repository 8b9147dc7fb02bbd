-- The definitions that the clauses of rg_check name, and Inner, which may not be cited above (docs/language.md, "Acceptance").
pub mod Checked
pub mod Laws
pub mod Inner
