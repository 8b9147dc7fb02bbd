-- Images of contents, and which bytes are one (docs/architecture.md, "Images").
pub mod ImageText
pub mod Images
pub mod Inner
