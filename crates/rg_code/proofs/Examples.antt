-- Programs and their code, computed: listings, entries and openings, and where items begin.
mod Words
mod Expressions
mod Calls
mod Windows
mod Loops
mod Places
mod Arrays
