-- What each kind of statement does, in the code and in the meaning.
pub mod Right
pub mod Assign
pub mod Block
pub mod Return
pub mod Window
pub mod Call
pub mod Called
