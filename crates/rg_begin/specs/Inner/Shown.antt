-- The machine with which a behaviour begins, written out (docs/architecture.md, "How a behaviour begins").
use Rattle.std.specs.Prelude.{ℕ, ◌-◌, List, [], ◌∷◌, replicate, None}
use Rattle.rg_base.specs.declared.object.Label.TheVariants.{Region}
use Rattle.rg_base.specs.declared.words.Manager.TheVariants.{Arena}
use Rattle.rg_base.specs.declared.value.Val.TheVariants.{Nil, Obj}
use Rattle.rg_code.specs.declared.code.Entry.{Entry}
use Rattle.rg_stack.specs.Machine.{Machine}
use Rattle.rg_opening.specs.declared.given.Given.{Given}
use Rattle.rg_opening.specs.Opening.{field_values, content_objects, content_managers}

-- The object is the first one, in region 0, and behind it stand the contents of its fields. The method stands at its entry, with the object in its
-- first slot; main's frame is beneath it.
abbrev pub begun_machine : (main_slots : ℕ) → Entry → (class : ℕ) → List Given → Machine
begun_machine n e class given = record {
  store = record { class = class; fields = field_values 1 given; label = Region 0 } ∷ content_objects 1 1 given;
  frames = record { slots = Obj 0 ∷ replicate (e.slots - 1) Nil; back = 0 } ∷ record { slots = replicate n Nil; back = 0 } ∷ [];
  windows = record { number = 0; region = 0; owner = None; base = 0 } ∷ [];
  managers = Arena ∷ content_managers given;
  windows_made = 1;
  at = e.at;
}
