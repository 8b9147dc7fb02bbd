-- What a step frees: changes of the store and of windows, what becomes of the objects of a label, which regions end, and walks.
pub mod Changes
pub mod Windows
pub mod Fates
pub mod Shut
pub mod Walks
