-- A module, as contracts see it (docs/architecture.md, "Modules").
use Rattle.std.specs.Prelude.{ℕ, ◌-◌, List, [], ◌∷◌, ◌++◌, length, replicate}
use Rattle.rg_base.specs.declared.ty.Ty.{Ty}
use Rattle.rg_base.specs.declared.words.Manager.{Manager}
use Rattle.rg_code.specs.Code.{Code}
use Rattle.rg_spell.specs.declared.rows.Shape.{Shape}
use Rattle.rg_spell.specs.declared.rows.Head.{Head}

-- Main's manager, the classes, the heads of the methods, the code, and for each instruction its map: at a `mark` the types of the
-- variables there, elsewhere nothing.
pub record Parts : Type 0 where
  pub manager : Manager
  pub classes : List Shape
  pub methods : List Head
  pub code : Code
  pub maps : List (List Ty)

-- the first maps, and empty ones up to so many
abbrev pub filled_up : ℕ → List (List Ty) → List (List Ty)
filled_up n maps = maps ++ replicate (n - length maps) []

-- the module that has these parts, with the maps of its first instructions
abbrev pub parts_of : Manager → List Shape → List Head → Code → List (List Ty) → Parts
parts_of m classes methods code maps = record {
  manager = m;
  classes = classes;
  methods = methods;
  code = code;
  maps = filled_up (length code.ops) maps;
}

-- a module with a code, and no classes, methods or maps
abbrev pub with_code : Manager → Code → Parts
with_code m code = parts_of m [] [] code []

-- one more class
abbrev pub with_class : Parts → Shape → Parts
with_class m s = record m { classes = m.classes ++ s ∷ [] }

-- the head of one more method
abbrev pub with_head : Parts → Head → Parts
with_head m h = record m { methods = m.methods ++ h ∷ [] }
