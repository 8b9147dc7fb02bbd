-- Walks beside those over the growing store: that one does less, what is kept along it, where it goes back to, where it stops, and runs.
pub mod Less
pub mod Keep
pub mod Walk
pub mod Back
pub mod Stop
pub mod Run
