-- The lemmas that the answers of rg_move use; none is for crates above.
mod CellsLabelled
mod MembersLabelled
mod PartFrozen
mod GroveFrozen
mod NextFrozen
mod FieldsCounted
mod MembersMoved
mod GroveJoined
mod CellsJoined
mod RecordsJoined
mod MergeTold
mod Examples
