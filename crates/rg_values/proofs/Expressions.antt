-- What expressions, paths and written types stand for, and what is used up.
pub mod Types
pub mod Spots
pub mod Using
pub mod Argument
