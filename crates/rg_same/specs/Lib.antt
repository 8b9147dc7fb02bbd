-- The laws that the module of a program has exactly the lines of marks (docs/architecture.md, "Modules").
pub mod Laws
