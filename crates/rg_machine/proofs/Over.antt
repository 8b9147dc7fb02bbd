-- The machine over words that are kept beside it.
pub mod Lists
pub mod Slots
pub mod Elements
pub mod Ends
pub mod Copies
