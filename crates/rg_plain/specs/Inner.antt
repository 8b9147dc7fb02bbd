-- What joins the private layers of this crate; no clause of a public call cites it (docs/language.md, "Steps").
pub mod Counts
pub mod Inputs
pub mod Says
pub mod Steps
