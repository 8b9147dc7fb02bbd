-- The object of a behaviour (docs/architecture.md, "How a behaviour begins").
pub mod First
pub mod Laws
