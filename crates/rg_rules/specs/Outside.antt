-- What a run asks of and tells to the world outside: the pacer, the input, and the text of its steps (docs/language.md, "Steps").
pub mod Asks
pub mod Inputs
pub mod Texts
