-- What is kept: variables and objects.
pub mod Local
pub mod Numbered
pub mod Stored
