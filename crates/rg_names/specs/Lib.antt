-- The definitions that the clauses of rg_names name, and Inner, which may not be cited above (docs/language.md, "Headers").
pub mod Table
pub mod TableOf
pub mod Book
pub mod Judged
pub mod MethodNumbers
pub mod TreeAnswers
pub mod Laws
pub mod Inner
