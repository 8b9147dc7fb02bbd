-- The two machines beside each other: what they share, while a window ends too, slots that are written, and what is freed.
pub mod Part
pub mod Half
pub mod Slot
pub mod Burial
