-- Lemmas on the module of a program, and programs with their modules, computed; those with pub are for crates above.
mod Class
mod LayingSteps
mod Counting
mod Copying
mod Walking
mod Quiet
mod Follows
mod Near
mod Short
pub mod Spelt
mod Environments
mod Points
pub mod Marks
mod Examples
