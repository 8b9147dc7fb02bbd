-- The lemmas that the answers of rg_lex use; those with pub are open to crates above.
mod ByLength
mod FrontCases
mod Progress
pub mod Spans
