-- The laws on each call of the heap (Callers), for crates above, and the lemmas by which they are proved.
pub mod Callers
mod Examples
mod List
