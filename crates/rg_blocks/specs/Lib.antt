-- What calls make of blocks that are raised from their code (docs/architecture.md, "Modules").
pub mod Blocks
