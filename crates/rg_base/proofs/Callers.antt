-- For crates above: what is left of a list, options that have something, labels, the values of digits, and texts of outputs.
pub mod Lists
pub mod Options
pub mod Labels
pub mod Digits
pub mod Texts
