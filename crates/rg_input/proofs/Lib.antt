-- Lemmas on blanks, tokens and what is held; Input is for crates above.
mod LookingAhead
mod Holding
pub mod Input
mod Next
mod Digits
mod Read
mod Run
