-- What was raised from code has that code, and code gives back what has it. Those with pub are for crates above.
mod Settling
mod Parts
pub mod Raises
pub mod Again
mod Named
mod NamedParts
mod NamedBlocks
mod Row
mod TreeStack
mod Settle
mod Put
mod Path
mod Fronts
mod Places
mod Refused
mod Walking
mod Examples
mod BlockExamples
mod Pieces
pub mod BlockRaises
mod Reading
mod RightsAgain
mod KindsAgain
mod BlocksAgain
pub mod ToldStands
