-- The definitions that the clauses of rg_lex name, and Inner, which may not be cited above (docs/language.md, "Tokens").
pub mod TokenList
pub mod Places
pub mod Gives
pub mod Inner
