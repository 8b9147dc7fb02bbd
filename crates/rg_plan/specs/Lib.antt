-- The definitions that the clauses of rg_plan name, and Inner, which may not be cited above (docs/architecture.md, "Plans").
pub mod Pieces
pub mod Plans
pub mod Lines
pub mod Rules
pub mod Laws
pub mod Inner
