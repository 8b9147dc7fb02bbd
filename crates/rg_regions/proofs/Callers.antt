-- Lemmas for the crates that free, freeze or move regions.
pub mod Told
pub mod Chain
pub mod Fewer
pub mod Beside
pub mod RegionComes
pub mod Changed
pub mod Freed
pub mod OwnedFound
pub mod OneShrinks
pub mod Dropped
pub mod MembersSwept
pub mod Removed
pub mod HandedOver
pub mod Shares
pub mod CellComes
pub mod Ordered
