-- What always holds of the program that a module tells (docs/architecture.md, "Modules").
pub mod Laws
pub mod Bare
