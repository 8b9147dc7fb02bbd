-- What pacers are asked and what the ones of this crate answer (docs/architecture.md, "Pacers").
pub mod Asked
pub mod Limited
pub mod Listing
