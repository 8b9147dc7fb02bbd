-- What private functions answer, and what they test.
pub mod Counting
pub mod Fine
