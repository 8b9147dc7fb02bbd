-- The numbers of an input, whatever the pieces of its source (docs/language.md, "Input numbers").
pub mod Numbers
pub mod Read
pub mod Inner
