-- What joins the private layers of this crate; no clause of a public call cites it (docs/language.md, "Steps").
pub mod Calls
pub mod Makes
pub mod Moves
pub mod Swaps
pub mod Windows
