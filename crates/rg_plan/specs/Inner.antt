-- What joins the private layers of this crate; no clause of a public call cites it.
pub mod Found
pub mod Owned
pub mod Words
