-- The definitions that the clauses of rg_parse name, and Inner, which may not be cited above (docs/language.md, "Grammar").
pub mod Answers
pub mod Inner
