-- The laws that tie the lines of a program to the marks of its code (docs/architecture.md, "Modules").
pub mod Laws
