-- The definitions that the clauses of rg_make name, and Inner, which may not be cited above (docs/language.md, "The generated program").
pub mod Generated
pub mod Inner
