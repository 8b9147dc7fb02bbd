-- Lemmas on the module of a program without the lines that no mark has.
mod Maps
