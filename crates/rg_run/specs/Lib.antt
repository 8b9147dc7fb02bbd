-- The definitions that the clauses of rg_run name, and Inner, which may not be cited above (docs/language.md, "Steps").
pub mod Machine
pub mod Sound
pub mod Runs
pub mod Reports
pub mod Asked
pub mod Inner
pub mod States
pub mod Whole
pub mod Collected
