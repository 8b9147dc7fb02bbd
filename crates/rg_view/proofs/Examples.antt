-- What small heaps show, computed.
pub mod Heaps
