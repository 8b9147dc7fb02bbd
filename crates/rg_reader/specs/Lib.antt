-- The definitions that the clauses of rg_reader name, and Inner, which may not be cited above (docs/language.md, "Grammar").
pub mod Heads
pub mod Inner
pub mod Lists
pub mod Near
pub mod Readings
pub mod Roles
pub mod Steps
