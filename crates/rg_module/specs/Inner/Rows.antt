-- Instructions that were read, before what follows from them is added to their code.
use Rattle.std.specs.Prelude.{◌≡◌, ◌≤◌, ℕ, List, length, zip}
use Rattle.rg_base.specs.declared.ty.Ty.{Ty}
use Rattle.rg_code.specs.declared.op.Op.{Op}
use Rattle.rg_code.specs.Code.{Code, empty}
use Rattle.rg_module.specs.Parts.{filled_up}

-- the instructions of a code, each with its map
abbrev pub rows_of : Code → List (List Ty) → List (Op × List Ty)
rows_of c maps = zip c.ops maps

-- a code of instructions alone, with a map for each
pub record IsBare (c : Code) (maps : List (List Ty)) : Type 0 where
  pub even : length maps ≡ length c.ops
  pub bare : c ≡ record empty { ops = c.ops }

-- maps with empty ones behind them are the same up to so many, and no more than that
pub record IsPadded (n : ℕ) (old new : List (List Ty)) : Type 0 where
  pub same : filled_up n new ≡ filled_up n old
  pub within : length new ≤ n
