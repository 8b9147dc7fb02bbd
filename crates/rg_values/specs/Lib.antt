-- The definitions that the clauses of rg_values name (docs/language.md, "Steps").
pub mod Fits
pub mod Kept
pub mod Methods
pub mod Printing
pub mod Receivers
pub mod Regions
pub mod Rooms
pub mod Shown
pub mod Spots
pub mod Steps
