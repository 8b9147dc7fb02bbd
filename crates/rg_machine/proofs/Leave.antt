-- Windows that are left.
pub mod Behind
pub mod Lists
mod Effect
mod Free
pub mod Heap
pub mod Whole
pub mod Given
