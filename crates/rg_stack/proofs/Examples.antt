-- What instructions do, a run, and what is shown of a state, computed.
pub mod Instructions
pub mod Programs
pub mod Steps
pub mod Needed
pub mod Arrays
