-- What callers cite: lists, what stands at a mark and behind a statement, frames and where windows begin, labels, where slots and fields lead,
-- what instructions need, walks that do less, the laws, and what is calm and orderly.
pub mod List
pub mod Mark
pub mod Left
pub mod Frame
pub mod Base
pub mod Label
pub mod Lead
pub mod Once
pub mod Need
pub mod Less
pub mod Given
pub mod Order
pub mod Step
pub mod Opening
pub mod Behaviour
pub mod Run
pub mod Refusal
pub mod Read
pub mod Due
