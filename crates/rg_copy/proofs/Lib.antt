-- The lemmas that the answers of rg_copy use; none is for crates above.
mod Words
mod Fields
mod Passes
mod Turns
mod Shifted
mod Shown
mod Stages
mod Slides
mod GroveSlides
mod Between
mod Examples
mod LocalRoots
