-- Lemmas of modules and their bytes, and modules with their bytes, computed.
mod Spelt
mod Filling
mod Bodies
mod SideBySide
mod Examples
pub mod Counts
