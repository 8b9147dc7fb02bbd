-- The commands that words give, the statuses with which a call ends, and what the reader of the words answers (docs/language.md, "The command line").
pub mod Commands
pub mod Statuses
pub mod Requests
pub mod Answers
