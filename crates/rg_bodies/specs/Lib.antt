-- Bodies raised from code, what they are by the code alone, and as rows (docs/architecture.md, "Modules").
pub mod Bodies
pub mod Standing
pub mod Rows
pub mod Inner
