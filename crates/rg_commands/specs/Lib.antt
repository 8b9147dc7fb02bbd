-- What a command answers and leaves (docs/promises.md, "The headline"); Inner may not be cited above.
pub mod Expected
pub mod CutOff
pub mod Asked
pub mod Laws
pub mod Settled
pub mod Setting
pub mod Tallies
pub mod Inner
