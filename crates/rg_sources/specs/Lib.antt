-- What a command's files mean, and what is read of them (docs/promises.md, "The headline").
pub mod Sources
pub mod Brings
pub mod Opens
