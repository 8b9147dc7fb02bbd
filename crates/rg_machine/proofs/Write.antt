-- Slots and fields that are written.
pub mod Slot
pub mod Field
pub mod Element
