-- The classes of a program that is raised from a module, and its methods as calls need them (docs/architecture.md, "Modules").
pub mod Written
pub mod Order
pub mod Rows
