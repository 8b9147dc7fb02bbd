-- The law that a behaviour's object stays held (docs/architecture.md, "How a behaviour begins").
pub mod Lasting
