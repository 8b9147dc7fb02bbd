-- Lemmas of this crate; Callers, Fronts and Cuts are for crates above.
mod Examples
mod InputExamples
mod ReportExamples
pub mod Callers
pub mod Fronts
pub mod Cuts
