-- A window that is left with another bridge.
pub mod Needs
pub mod Place
pub mod Bridge
pub mod Behind
pub mod Whole
pub mod Beside
