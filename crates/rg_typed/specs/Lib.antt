-- Which contents fit a program (docs/architecture.md, "Cargo").
pub mod Typed
pub mod Known
