-- Lemmas on the programs that raise a module.
mod Alike
mod Back
mod Bare
mod BodyCode
mod Endings
mod Fits
mod Found
mod Levels
mod Names
mod Raised
mod SameCallees
mod Verdicts
mod Written
