-- The module of a program, and the laws that tie it to the program's environments and to the bytes of modules (docs/architecture.md, "Modules").
pub mod Maps
pub mod ModuleOf
pub mod Laws
pub mod Inner
