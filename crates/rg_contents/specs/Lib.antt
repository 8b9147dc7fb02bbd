-- What cowns have at rest (docs/architecture.md, "Schedules").
pub mod Rest
pub mod Read
pub mod Laws
