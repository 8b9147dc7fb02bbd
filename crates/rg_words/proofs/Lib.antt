-- The lemmas that the answers of rg_words use; Written is for crates above.
mod Number
mod Option
mod CommandExamples
pub mod Written
