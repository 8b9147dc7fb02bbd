-- Lemmas on contents that were loaded (docs/architecture.md, "Cargo").
mod Following
mod ReadBack
mod Managed
mod Shown
mod Examples
