-- Lemmas on the text of a world.
mod Lines
mod Told
mod Examples
