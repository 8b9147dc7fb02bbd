-- The definitions that the clauses of rg_expressions name, and Inner, which may not be cited above (docs/language.md, "Judgements").
pub mod Judging
pub mod Walks
pub mod Inner
