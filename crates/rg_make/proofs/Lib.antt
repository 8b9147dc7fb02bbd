-- The lemmas that the answers of rg_make use; none is for crates above.
mod Adding
mod Numbers
mod GeneratedExamples
