-- What joins the private layers of this crate; no clause of a public call cites it.
pub mod Levels
pub mod Parts
pub mod Starts
