-- The table of regions, and what collectors keep, as definitions; Inner may not be cited from above (docs/architecture.md, "Regions").
pub mod Table
pub mod Reach
pub mod Spent
pub mod Grove
pub mod Chains
pub mod Owned
pub mod Collection
pub mod Dropped
pub mod Same
pub mod Inner
pub mod Ordered
pub mod Shrinks
