-- Lemmas for the crates that call the heap.
pub mod Opens
