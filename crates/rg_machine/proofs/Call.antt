-- Frames that come and go.
pub mod Top
pub mod Frames
pub mod Gone
pub mod Home
