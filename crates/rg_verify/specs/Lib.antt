-- Programs that raise a module are told by it, and what a verifier says of a module (docs/architecture.md, "Modules").
pub mod Bodies
pub mod Inner
pub mod Told
pub mod Bare
pub mod Verdict
