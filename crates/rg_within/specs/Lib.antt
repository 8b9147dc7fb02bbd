-- What a source spells passes no limit of a source (docs/language.md, "Limits").
pub mod Laws
