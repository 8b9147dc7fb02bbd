-- The text of a world (docs/architecture.md, "Worlds").
pub mod Text
