-- The walk along the code of a step: its turns, what a refusal leaves, what is made, and how it ends.
pub mod Walks
pub mod Clear
pub mod Stands
pub mod High
pub mod Leaves
pub mod Ask
pub mod Stops
pub mod Landings
pub mod OneAsk
pub mod Run
pub mod Steps
pub mod Outcomes
