-- That a step is determined, as definitions (docs/architecture.md, "The stepper").
pub mod Once
