-- The programs that pass no limit of a source, by their tree (docs/language.md, "Limits").
pub mod Parts
pub mod Depth
pub mod Each
pub mod Signs
pub mod Numbers
pub mod Brackets
pub mod Opens
pub mod Limits
pub mod Telling
pub mod Bare
pub mod Laws
pub mod Inner
