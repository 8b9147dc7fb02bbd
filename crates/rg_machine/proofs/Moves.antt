-- Regions that are frozen or merged.
pub mod Sole
mod Behind
pub mod Given
pub mod Effect
