-- The lemmas that the answers of rg_trail use.
mod HeldCells
mod Read
mod Stand
