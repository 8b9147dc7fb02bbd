-- New objects.
pub mod Grow
pub mod Object
mod Temporary
pub mod Cells
pub mod Refused
pub mod Array
