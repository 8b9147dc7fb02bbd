-- What joins private layers: no headline reaches it.
pub mod Parts
pub mod Adds
