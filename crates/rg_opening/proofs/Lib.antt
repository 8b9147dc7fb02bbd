-- The lemmas by which the laws are proved; those with pub are for crates above.
pub mod Placed
mod Objects
mod Owners
mod Fits
mod Reached
mod Returned
mod GoesBack
mod Examples
