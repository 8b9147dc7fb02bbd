-- Owner references, the windows that come and go, and what moves.
pub mod Owner
pub mod Bridge
pub mod Data
pub mod Window
mod LeaveFrame
pub mod Leave
pub mod LeaveGiving
pub mod Receiver
pub mod Entrance
pub mod Enter
pub mod Open
pub mod Swap
