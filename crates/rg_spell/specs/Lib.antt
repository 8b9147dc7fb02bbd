-- The bytes of each part of a module, and such a part read from the front of bytes (docs/architecture.md, "Modules").
pub mod Spelling
pub mod Makings
pub mod Reading
pub mod Laws
