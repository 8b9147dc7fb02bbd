-- Marking: weights of marked slots, the three colours, and each turn of the loops (docs/architecture.md, "Mark and
-- sweep").
pub mod Weights
pub mod Colours
pub mod Turns
