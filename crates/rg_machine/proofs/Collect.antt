-- Collections of the active region, and what they reach.
pub mod Effect
pub mod Unmoved
pub mod Sliding
pub mod Slots
pub mod Bridge
