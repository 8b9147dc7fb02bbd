-- Walks along code, given what instructions need or not.
pub mod Index
pub mod Walk
pub mod Slot
pub mod Place
pub mod Entry
pub mod Argument
pub mod End
