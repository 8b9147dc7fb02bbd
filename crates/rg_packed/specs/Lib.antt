-- What `pack` writes of a program is a module that a program raises, and the two have the same runs (docs/architecture.md, "Modules").
pub mod Told
pub mod Laws
