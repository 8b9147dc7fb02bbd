-- The state in which a behaviour begins (docs/architecture.md, "How a behaviour begins").
pub mod Opening
pub mod Beginning
pub mod Laws
