-- What expressions, arguments and right sides compute to, and the variables that take it.
pub mod Label
pub mod Declared
pub mod Value
pub mod Right
pub mod Local
pub mod Assign
pub mod Deliver
pub mod Return
pub mod Argument
mod Call
mod Loose
pub mod Invoke
