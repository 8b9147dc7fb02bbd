-- The lemmas that the answers of rg_step use; those in Callers are for crates above.
pub mod Callers
mod Walking
mod Shapes
mod Pacing
mod Frees
mod Hops
mod Turns
mod Locals
mod Held
mod One
mod Slides
mod Giving
mod Write
mod WriteExamples
