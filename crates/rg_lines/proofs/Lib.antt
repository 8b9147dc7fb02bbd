-- Lemmas on programs without the lines that no mark has; those with pub are for crates above.
pub mod DoBlocks
pub mod Types
mod Judgements
pub mod Acceptance
pub mod Regions
pub mod Plain
pub mod Asks
pub mod AllLines
pub mod Texts
pub mod FewNames
pub mod Examples
