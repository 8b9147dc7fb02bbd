-- Modules, the bytes that spell them, and what of a module follows from the rest (docs/architecture.md, "Modules").
pub mod Parts
pub mod Follows
pub mod Spelling
pub mod Laws
pub mod Inner
