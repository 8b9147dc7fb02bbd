-- Windows that open.
pub mod Place
pub mod Slot
pub mod Field
pub mod Key
