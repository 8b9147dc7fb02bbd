-- What files, sources and sinks tell of their content, and their counts of faults (docs/architecture.md).
pub mod Content
pub mod Files
pub mod MemFiles
pub mod MemSink
pub mod MemSource
pub mod Calls
pub mod Untold
pub mod Inner
