-- The lemmas that the answers of rg_machine use, by what they speak of; Callers is open to crates above.
mod Number
mod Indexed
mod Placed
pub mod Callers
mod Call
mod Write
mod New
mod Find
mod Swap
mod Kept
mod Known
mod Begin
mod Moves
mod Enter
mod Release
mod End
mod Leave
mod Giving
mod Collect
mod Owned
mod Over
