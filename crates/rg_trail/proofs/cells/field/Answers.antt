use Rattle.rg_trail.proofs.HeldCells.{is-held}
use Rattle.rg_trail.proofs.cells.field.Goals as goal

pub element-requires : goal.element-requires
element-requires c = is-held _ _ _ c.in_ok-held.ensures.serial
