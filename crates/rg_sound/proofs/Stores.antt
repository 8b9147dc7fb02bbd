-- What becomes of the store: fields that are written, objects that are made, regions that are merged and frozen.
pub mod Replace
pub mod Store
pub mod Field
pub mod Element
mod New
pub mod Make
pub mod MergeLabel
mod Merge
pub mod Consume
pub mod Member
pub mod Beneath
mod FrozenLabel
mod Frozen
pub mod Freeze
