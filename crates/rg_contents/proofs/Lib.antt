-- Lemmas on contents at rest (docs/architecture.md, "Schedules").
mod Lists
mod Methods
mod Owners
mod Begins
mod Returns
mod News
mod Worlds
mod Examples
