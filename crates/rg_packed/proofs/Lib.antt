-- Lemmas on the modules of programs that sources spell, and on the runs of programs of one module.
mod Early
mod Lined
mod Reading
mod Numbers
mod Bounds
mod Spelt
mod Runs
mod Whole
mod Examples
