-- Blocks with numbers of a program fit where their code stands, and its marks have their maps (docs/architecture.md, "Modules").
pub mod Callees
pub mod Laws
pub mod Places
