-- In each state whose data fit, at the start of a step or in its middle, what the instructions need holds.
pub mod Count
pub mod Closed
pub mod Keep
pub mod Holder
pub mod Temp
pub mod Owner
pub mod Leave
