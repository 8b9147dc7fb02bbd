-- A collection of the active region leaves the machine that frees beside the one over a growing store.
mod Frees
pub mod Roots
mod Held
pub mod Told
pub mod Whole
