-- Steps that read the input, and what asks for none.
pub mod Input
pub mod Unasked
