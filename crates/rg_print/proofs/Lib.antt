-- Lemmas of the printer, and the law of canonical text.
mod Canon
mod Joined
mod Rests
