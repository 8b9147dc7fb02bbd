-- The program that a module is of, and how it is raised from the module's code (docs/architecture.md, "Modules").
pub mod Naming
pub mod Raised
pub mod Parts
pub mod Rows
pub mod Raising
pub mod Raises
pub mod Statements
pub mod Found
pub mod Signs
pub mod Blocks
pub mod Standing
pub mod Inner
