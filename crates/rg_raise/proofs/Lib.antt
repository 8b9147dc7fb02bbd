-- What calls make of what is told, by its parts. Those with pub are for the crate above.
pub mod Rows
mod Using
mod Used
pub mod FrontRows
pub mod Telling
pub mod RightSides
mod KindParts
mod Objects
