-- Lemmas on schedules (docs/architecture.md, "Schedules").
mod Lists
mod Commutes
mod Worlds
mod Order
mod Alike
mod Rest
mod Named
mod GoesOn
mod Fronts
mod Examples
