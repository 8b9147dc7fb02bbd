-- The words of the language, cut into tokens; values and their text; faults, input numbers and reports (docs/language.md).
pub mod Words
pub mod Pieces
pub mod Tokens
pub mod Text
pub mod Diagnostics
pub mod Input
pub mod Report
