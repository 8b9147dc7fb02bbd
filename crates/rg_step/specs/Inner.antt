-- What joins the private layers of this crate; no clause of a public call cites it (docs/architecture.md, "The stepper").
pub mod Walks
pub mod Refusals
pub mod Leaps
pub mod Held
pub mod Serving
pub mod High
pub mod Hops
