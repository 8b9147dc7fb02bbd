-- The stack machine that frees, how it stands beside the other one, and laws on both (docs/architecture.md, "The machine that frees").
pub mod Frees
pub mod Part
pub mod Ends
pub mod Freed
pub mod Laws
pub mod Gather
pub mod Shown
pub mod Gone
pub mod Alike
pub mod Temps
