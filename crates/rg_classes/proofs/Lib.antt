-- Rows of classes, put together, and methods numbered in order.
mod Adding
mod Turns
mod Numbering
