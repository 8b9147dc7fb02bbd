-- Joins the parts of the verifier (docs/architecture.md, "Modules").
pub mod Verdicts
