-- What callers see of the stepper (docs/architecture.md, "The stepper").
pub mod Inner
pub mod Steps
pub mod Collections
pub mod Writes
pub mod Asking
pub mod Frees
pub mod Sound
pub mod States
pub mod Yeses
pub mod Stepping
pub mod Pacers
pub mod Behaviours
pub mod Begins
