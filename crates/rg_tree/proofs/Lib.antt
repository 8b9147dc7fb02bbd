-- Lemmas on the grammar and on the tables; those with pub are for crates above.
pub mod ByRows
pub mod Stopping
pub mod Passing
pub mod Unique
mod SameKinds
mod Halting
mod Reader
mod Texts
mod StuckPlaces
mod RoundTrips
mod WholePrograms
mod Name
pub mod TreesFrom
pub mod Grows
pub mod Programs
pub mod Callers
pub mod Adding
mod BuiltPrograms
