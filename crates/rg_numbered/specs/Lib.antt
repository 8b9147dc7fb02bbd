-- The blocks with numbers that the bodies of a program are (docs/architecture.md, "Modules").
pub mod Numbered
pub mod ModuleNames
pub mod Laws
