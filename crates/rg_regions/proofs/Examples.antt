-- The definitions tried on small heaps.
mod Reached
mod Spends
mod Beneath
mod Groves
mod Grown
