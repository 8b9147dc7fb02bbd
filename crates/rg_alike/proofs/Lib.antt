-- Lemmas on what a machine shows of programs that are the same but for the lines that no mark has.
mod Dues
mod Places
mod Regions
mod Standing
