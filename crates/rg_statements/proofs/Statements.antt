-- The step of a statement, and of each form of it.
pub mod Statement
pub mod Field
pub mod Make
pub mod Moves
pub mod Call
pub mod Window
pub mod Giving
