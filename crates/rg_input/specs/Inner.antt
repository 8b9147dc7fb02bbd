-- What joins the private layers of this crate; no clause of a public call cites it (docs/language.md, "Input numbers").
pub mod Ahead
pub mod Held
pub mod Limit
