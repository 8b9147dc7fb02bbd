-- Steps of known shapes: one after the other, those that ask the input, that make an object, and that are passed over to be collected.
pub mod Asking
pub mod KnownSteps
pub mod Making
pub mod Pass
pub mod Paced
