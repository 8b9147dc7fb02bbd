-- The lemmas that the answers of rg_count use; those with pub are open to crates above.
mod RootsFlagged
mod CountsLowered
mod ZerosListed
mod SpentInTurn
mod CountsBegun
mod CellsSwept
mod PartsJoined
mod GroveKept
pub mod Written
