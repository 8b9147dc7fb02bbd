-- The definitions that the clauses of rg_frames name, and Inner, which may not be cited above (docs/architecture.md, "Frames").
pub mod Stack
pub mod Changes
pub mod Layers
pub mod Inner
