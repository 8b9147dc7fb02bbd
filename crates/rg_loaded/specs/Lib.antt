-- What holds of a content that was loaded (docs/architecture.md, "Cargo").
pub mod Back
