-- Lemmas on instructions and on lists; none is for crates above.
mod Answers
mod Instructions
