-- How variables are kept in this crate; no clause of a public call cites it.
pub mod Layout
