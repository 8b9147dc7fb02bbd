-- Lemmas of reading and writing the parts of a module; the laws of parts, and how a loop reads, are for crates above.
pub mod Readers
pub mod TypeReaders
pub mod OpReaders
pub mod Loops
mod Writers
