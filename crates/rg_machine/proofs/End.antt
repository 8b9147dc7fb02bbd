-- What the slots of the topmost frame own goes.
pub mod Slot
mod Slots
pub mod Nil
pub mod Emptied
pub mod Home
pub mod Nothing
