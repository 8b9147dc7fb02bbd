-- The lemmas that the answers of rg_commands use; those with pub are for the top call.
pub mod Meaning
pub mod Settled
mod Ran
pub mod Generated
mod Reported
pub mod Asked
pub mod Refused
mod Planned
