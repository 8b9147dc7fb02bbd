-- The program that an accepted program is with numbers for names, and its laws (docs/architecture.md, "Modules").
pub mod Renamed
pub mod Laws
