-- Instructions beside those over the growing store: what works on the stack, what gives up, what makes and writes, labels, windows; and each.
pub mod Stack
pub mod Easy
pub mod Release
pub mod Return
pub mod Make
pub mod Write
pub mod Give
pub mod Leave
pub mod Object
pub mod Label
pub mod Consume
pub mod Enter
pub mod Each
