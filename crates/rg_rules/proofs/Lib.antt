-- Lemmas on the rules and on the machine that never frees; those with pub are for crates above.
pub mod Answers
pub mod Path
pub mod Expression
pub mod Point
pub mod Header
pub mod Acceptance
pub mod Uses
pub mod Local
pub mod Run
mod Value
pub mod Region
pub mod Step
pub mod Sources
mod FaultExamples
mod RuleExamples
mod PlaceExamples
mod RunSources
mod RunExamples
mod CollectExamples
mod LongExamples
mod ArrayExamples
mod GivingExamples
mod StepExamples
mod MissingExamples
