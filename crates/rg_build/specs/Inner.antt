-- What joins the private layers of this crate; no clause of a public call cites it (docs/architecture.md, "Modules").
pub mod Slots
pub mod Laid
pub mod Near
