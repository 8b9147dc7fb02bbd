-- Frames, and the regions that were made.
pub mod Frame
pub mod Fit
