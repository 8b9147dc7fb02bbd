-- What may be cited from above of the machine that never frees, and Inner, which may not (docs/language.md, "Steps").
pub mod Machine
pub mod Outcomes
pub mod Runs
pub mod Inner
