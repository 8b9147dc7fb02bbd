-- What callers see of the machine (docs/architecture.md, "The machine").
pub mod Core
pub mod Keeps
pub mod Parts
pub mod Stands
pub mod Frames
pub mod Effects
pub mod Collects
pub mod Owned
pub mod Active
pub mod High
pub mod Cores
pub mod Makes
pub mod Acts
pub mod Among
pub mod Over
pub mod Inner
