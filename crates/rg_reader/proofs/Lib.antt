-- The lemmas that the answers of rg_reader use; those named by pub are for rg_parse, too.
mod Exits
mod ExprRows
mod Firsts
pub mod Growing
pub mod Halting
pub mod Loops
mod Nears
mod PathRows
mod Ranks
pub mod Tokens
mod TypeRows
