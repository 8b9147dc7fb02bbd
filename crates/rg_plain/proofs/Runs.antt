-- What a whole step answers, and runs of many steps.
pub mod Dispatch
pub mod Sound
pub mod Run
pub mod Machine
pub mod Count
