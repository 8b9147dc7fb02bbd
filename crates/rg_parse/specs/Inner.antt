-- What joins the private layers of this crate; no clause of a public call cites it.
pub mod Programs
pub mod Readings
pub mod Starts
