-- The bytes of a content (docs/architecture.md, "Images"). Numbers have the greatest byte first.
use Rattle.std.specs.Prelude.{◌<◌, ◌^◌, ℕ, List, [], ◌∷◌, ◌++◌, length, codes, Option, None, Some}
use Rattle.std.specs.List.{flat_map, AllByRecursion}
use Rattle.std.specs.Int.{w64}
use Rattle.std.specs.Int.RustNames.{FitsSigned}
use Rattle.rg_base.specs.declared.object.Label.{Label}
use Rattle.rg_base.specs.declared.object.Label.TheVariants.{Region, Temp, Frozen}
use Rattle.rg_base.specs.declared.words.Manager.{Manager}
use Rattle.rg_base.specs.declared.value.Val.{Val}
use Rattle.rg_base.specs.declared.value.Val.TheVariants.{Nil, Int, Bool, Obj}
use Rattle.rg_cown.specs.declared.cargo.CargoCell.{CargoCell}
use Rattle.rg_cown.specs.Cargo.{CargoList}
use Rattle.rg_spell.specs.Spelling.{four, eight, signed, bool_number, manager_number}

-- a count of parts, of eight bytes, and the parts
abbrev pub counted : {A : Type 0} → (A → List ℕ) → List A → List ℕ
counted part xs = eight (length xs) ++ flat_map part xs

-- what a field holds
abbrev pub value_bytes : Val → List ℕ
value_bytes Nil = 0 ∷ []
value_bytes (Int i) = 1 ∷ signed i
value_bytes (Bool b) = 2 ∷ bool_number b ∷ []
value_bytes (Obj a) = 3 ∷ eight a

-- a label; no content has a temporary
abbrev pub label_bytes : Label → List ℕ
label_bytes (Region r) = 0 ∷ eight r
label_bytes (Temp t) = []
label_bytes Frozen = 1 ∷ []

-- an object: its class, its label, a count of its fields, and the fields
abbrev pub cell_bytes : CargoCell → List ℕ
cell_bytes c = four c.class ++ (label_bytes c.label ++ counted value_bytes c.fields)

-- a manager
abbrev pub manager_bytes : Manager → List ℕ
manager_bytes m = manager_number m ∷ []

-- a count of managers, the managers, a count of objects, and the objects
abbrev pub cargo_bytes : CargoList → List ℕ
cargo_bytes c = counted manager_bytes c.managers ++ counted cell_bytes c.cells

-- nothing, or a cargo
abbrev pub content_bytes : Option CargoList → List ℕ
content_bytes None = 0 ∷ []
content_bytes (Some c) = 1 ∷ cargo_bytes c

-- the image of a content
abbrev pub image_text : Option CargoList → List ℕ
image_text content = codes "RGI1" ++ content_bytes content

-- Contents whose numbers are those of their types, so that bytes tell them apart

abbrev pub Counted : {A : Type 0} → (A → Type 0) → List A → Type 0
Counted Fits xs = (length xs < 2 ^ 64) × AllByRecursion Fits xs

abbrev pub FitsValue : Val → Type 0
FitsValue Nil = Unit {0}
FitsValue (Int i) = FitsSigned w64 i
FitsValue (Bool b) = Unit {0}
FitsValue (Obj a) = a < 2 ^ 64

abbrev pub FitsLabel : Label → Type 0
FitsLabel (Region r) = r < 2 ^ 64
FitsLabel (Temp t) = ⊥
FitsLabel Frozen = Unit {0}

pub record FitsCell (c : CargoCell) : Type 0 where
  pub class : c.class < 2 ^ 32
  pub label : FitsLabel c.label
  pub fields : Counted FitsValue c.fields

abbrev pub FitsManager : Manager → Type 0
FitsManager m = Unit {0}

pub record FitsCargo (c : CargoList) : Type 0 where
  pub managers : Counted FitsManager c.managers
  pub cells : Counted FitsCell c.cells

abbrev pub FitsContent : Option CargoList → Type 0
FitsContent None = Unit {0}
FitsContent (Some c) = FitsCargo c
