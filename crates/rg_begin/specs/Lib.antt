-- Which behaviours may begin by code, and with which machine (docs/architecture.md, "How a behaviour begins").
pub mod Starts
pub mod Begun
pub mod Inner
