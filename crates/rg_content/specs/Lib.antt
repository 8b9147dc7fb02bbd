-- What an `iso` field of an object owns (docs/architecture.md, "How a behaviour begins").
pub mod Fields
