-- Lemmas of this crate; none is for crates above.
mod Codes
mod Slot
mod Class
mod Target
mod BlockSteps
mod BlockTurns
mod Jumps
mod BodySteps
mod WholeSteps
