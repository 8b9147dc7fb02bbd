-- What the crates above cite: the collection of a step and what it tells, and steps one after the other.
pub mod Active
pub mod Chain
pub mod Reached
pub mod Serve
pub mod Told
pub mod Tuned
