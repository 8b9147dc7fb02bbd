-- What joins the private layers of this crate; no clause of a public call cites it.
pub mod Marks
pub mod Chains
pub mod Places
