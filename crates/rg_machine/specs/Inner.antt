-- What joins the private parts of this crate; no clause of a public call cites it (docs/architecture.md, "The machine").
pub mod Ends
pub mod Arrays
pub mod Beside
