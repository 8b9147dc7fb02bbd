-- Where a value goes, and parameters.
pub mod Element
pub mod Bind
