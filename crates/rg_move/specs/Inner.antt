-- What joins the private layers of this crate; no clause of a public call cites it.
pub mod Labels
pub mod Freezes
pub mod Moves
pub mod Joins
