-- Lemmas of this crate, and contents that were computed; those with pub are for crates above.
mod ClassNumber
mod Known
pub mod OneByOne
mod Examples
