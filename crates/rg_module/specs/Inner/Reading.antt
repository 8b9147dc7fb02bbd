-- A module read from bytes, part by part, or nothing where they spell none.
use Rattle.std.specs.Prelude.{ℕ, ◌==◌, if◌then◌else◌, List, ◌∷◌, length, map, Option, Some, None}
use Rattle.rg_base.specs.declared.ty.Ty.{Ty}
use Rattle.rg_base.specs.declared.words.Manager.{Manager}
use Rattle.rg_code.specs.declared.op.Op.{Op}
use Rattle.rg_spell.specs.declared.rows.Shape.{Shape}
use Rattle.rg_spell.specs.declared.rows.Head.{Head}
use Rattle.rg_spell.specs.Reading.{◌>>=◌, counted_at, manager_at, shape_at, head_at, row_at}
use Rattle.rg_module.specs.Parts.{Parts}
use Rattle.rg_module.specs.Follows.{code_for}

-- the bytes behind `RGM1`
abbrev pub magic_at : List ℕ → Option (List ℕ)
magic_at (a ∷ b ∷ c ∷ d ∷ bytes) =
    if a == 82 then (if b == 71 then (if c == 77 then (if d == 49 then Some bytes else None) else None) else None) else None
magic_at bytes = None

-- the module of what was read
abbrev pub module_of : Manager → List Shape → List Head → List (Op × List Ty) → Parts
module_of m classes methods rows = record {
  manager = m;
  classes = classes;
  methods = methods;
  code = code_for classes methods (map (λ r. r.0) rows);
  maps = map (λ r. r.1) rows;
}

-- the rest of a module, from the count of its instructions on
unfoldable pub rows_behind : Manager → List Shape → List Head → List ℕ → Option Parts
rows_behind m classes methods bytes = do
  rows ← counted_at row_at bytes
  if length rows.1 == 0 then Some (module_of m classes methods rows.0) else None

-- from the count of its methods on
unfoldable pub heads_behind : Manager → List Shape → List ℕ → Option Parts
heads_behind m classes bytes = do
  methods ← counted_at head_at bytes
  rows_behind m classes methods.0 methods.1

-- from the count of its classes on
unfoldable pub shapes_behind : Manager → List ℕ → Option Parts
shapes_behind m bytes = do
  classes ← counted_at shape_at bytes
  heads_behind m classes.0 classes.1

-- from its manager on
unfoldable pub manager_behind : List ℕ → Option Parts
manager_behind bytes = do
  m ← manager_at bytes
  shapes_behind m.0 m.1

unfoldable pub module_at : List ℕ → Option Parts
module_at bytes = do
  rest ← magic_at bytes
  manager_behind rest
