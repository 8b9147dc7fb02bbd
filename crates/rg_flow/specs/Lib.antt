-- The definitions that the clauses of rg_flow name, and Inner, which may not be cited above (docs/language.md, "Judgements").
pub mod Sets
pub mod Flows
pub mod Scope
pub mod States
pub mod Inner
