-- The machine that a heap with its frames shows, as a definition (docs/architecture.md, "The machine that frees").
pub mod View
pub mod Names
pub mod Numbers
pub mod Lain
pub mod Links
