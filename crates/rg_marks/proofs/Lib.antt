-- Lemmas on the lines that marks have; those with pub are for crates above.
mod Paths
pub mod Bodies
mod Relined
pub mod Told
mod Examples
