-- The lemmas that the answers of rg_when use.
mod Input
mod Told
mod Settled
mod Counter
mod Examples
