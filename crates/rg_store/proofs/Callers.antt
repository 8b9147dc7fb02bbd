-- For crates above: labels, and writes to objects.
pub mod Label
pub mod Write
