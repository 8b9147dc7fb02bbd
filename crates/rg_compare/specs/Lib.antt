-- What an answer says of whether two things are the same (docs/architecture.md, "Modules").
pub mod Telling
