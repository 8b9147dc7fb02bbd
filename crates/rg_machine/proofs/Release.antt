-- What a word owns goes.
pub mod Stays
pub mod Behind
pub mod Effect
pub mod Fewer
pub mod Given
