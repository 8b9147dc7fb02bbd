-- What joins the private layers of this crate; no clause of a public call cites it.
pub mod Reading
pub mod Entries
pub mod Ranges
pub mod Order
