-- The words of the headline, and Inner, which may not be cited above (docs/promises.md, "The headline").
pub mod Headline
pub mod Each
pub mod Laws
pub mod Limits
pub mod Packed
pub mod Inner
