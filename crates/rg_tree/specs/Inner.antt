-- What joins the private layers of this crate; no clause of a public call cites it (docs/language.md, "The tree").
pub mod Seen
