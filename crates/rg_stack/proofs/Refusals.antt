-- The order of instructions in a step, and which ask for the input or may collect.
pub mod Order
pub mod Kind
pub mod Behind
pub mod Plain
pub mod Tell
pub mod Item
