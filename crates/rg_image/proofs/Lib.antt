-- Lemmas of images, and images that were computed; none is for crates above.
mod Parts
mod Whole
mod Loops
mod NumbersGiven
mod Few
mod Behind
mod InOrder
mod Alone
mod Counts
mod Ranges
mod Examples
