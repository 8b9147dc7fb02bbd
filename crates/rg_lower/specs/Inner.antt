-- What joins the private layers of this crate; no clause of a public call cites it (docs/language.md, "Instructions and lowering").
pub mod Slots
pub mod Emitted
pub mod Statements
pub mod Methods
