-- What joins the private layers of this crate; no clause of a public call cites it.
pub mod Adds
pub mod Stacks
pub mod Unaries
