-- What the contracts inside the crate say.
pub mod Ends
