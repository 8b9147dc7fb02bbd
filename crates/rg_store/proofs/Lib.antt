-- Lemmas on the store of objects; those with pub are for crates above.
pub mod Callers
mod Object
mod Opening
mod Among
mod List
mod LinkedObjects
mod Subregions
mod Link
mod Relabelled
