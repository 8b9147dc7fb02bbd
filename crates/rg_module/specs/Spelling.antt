-- The bytes of a module (docs/architecture.md, "Modules"); those of its parts are in rg_spell.
use Rattle.std.specs.Prelude.{◌≡◌, ℕ, List, ◌∷◌, ◌++◌, length, zip, codes}
use Rattle.rg_base.specs.declared.ty.Ty.{Ty}
use Rattle.rg_code.specs.declared.op.Op.{Op}
use Rattle.rg_spell.specs.Spelling.{manager_number, counted, Counted, shape_bytes, FitsShape, head_bytes, FitsHead, row_bytes, FitsRow}
use Rattle.rg_module.specs.Parts.{Parts}
use Rattle.rg_module.specs.Follows.{code_for}

-- the instructions of a module, each with its map
abbrev pub rows_of : Parts → List (Op × List Ty)
rows_of m = zip m.code.ops m.maps

-- the bytes of a module
abbrev pub spelling : Parts → List ℕ
spelling m =
    codes "RGM1" ++ manager_number m.manager ∷ (counted shape_bytes m.classes ++ (counted head_bytes m.methods ++ counted row_bytes (rows_of m)))

-- some bytes spell a module: its counts and numbers have spellings, no slot has a number above 256, only a mark has a map, an array class
-- has no fields, and the rest of its code follows
pub record IsSpelt (m : Parts) : Type 0 where
  pub classes : Counted FitsShape m.classes
  pub methods : Counted FitsHead m.methods
  pub rows : Counted FitsRow (rows_of m)
  pub maps : length m.maps ≡ length m.code.ops
  pub code : m.code ≡ code_for m.classes m.methods m.code.ops

-- bytes spell a module
pub record Spells (bytes : List ℕ) (m : Parts) : Type 0 where
  pub spelt : IsSpelt m
  pub same : bytes ≡ spelling m
