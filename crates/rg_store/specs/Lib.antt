-- What may be cited from above of the store of objects, and Inner, which may not (docs/language.md, "Steps").
pub mod Shown
pub mod Read
pub mod Regions
pub mod Links
pub mod Inner
