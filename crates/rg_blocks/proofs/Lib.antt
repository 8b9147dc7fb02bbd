-- Blocks that are told, by their parts.
mod Put
mod Going
mod BlockParts
mod BlockRows
mod Turns
mod Firsts
mod Exprs
