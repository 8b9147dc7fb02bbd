-- The programs that a module is of, and the program that is raised from one (docs/architecture.md, "Modules").
pub mod Raises
pub mod Told
