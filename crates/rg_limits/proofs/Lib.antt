-- Lemmas on what is counted down, on lists, on what is tested together, on lines, and on the brackets of canonical text; and examples.
mod Leaving
mod Telling
mod Together
mod Lineless
mod Levels
mod Texts
mod PartTexts
mod TreeTexts
mod Examples
