-- What is read of a store and written to it: the object to which a value leads, and its fields, by names and by their numbers
-- (docs/language.md, "Steps").
use Rattle.std.specs.Prelude.{◌≡◌, ℕ, ◌<◌, List, length, slice_get, slice_set, unwrap_or, Result, Ok, Err}
use Rattle.rg_base.specs.declared.object.Seen.{Seen}
use Rattle.rg_base.specs.declared.value.Val.{Val}
use Rattle.rg_base.specs.declared.value.Val.TheVariants.{Nil, Obj}
use Rattle.rg_base.specs.declared.outcome.Trap.{Trap}
use Rattle.rg_tree.specs.Tree.{Name, Class}
use Rattle.rg_rules.specs.Answers.{◌>>=◌}
use Rattle.rg_rules.specs.Values.{Computed}
use Rattle.rg_rules.specs.Evaluation.{object_at, field_value}
use Rattle.rg_store.specs.declared.objects.ObjectRow.{ObjectRow}
use Rattle.rg_store.specs.Shown.{store_of}

-- the place of the object to which a value leads
abbrev pub LeadsTo : List ObjectRow → Val → Result ℕ Trap → Type 0
LeadsTo store v (Ok a) = (v ≡ Obj a) × (a < length store)
LeadsTo store v (Err kind) = object_at (store_of store) v ≡ Err kind

-- the value in a field of the object to which a value leads
abbrev pub field_behind : List Class → List Seen → Val → Name → Computed
field_behind classes store v x = do
  o ← object_at store v
  Ok (field_value classes o x)

-- the value in the field of a number; what isn't there reads as nil
abbrev pub value_at : Seen → (index : ℕ) → Val
value_at o k = unwrap_or (slice_get o.fields k) Nil

-- an object after a write to the field of a number; without one it stays
abbrev pub with_value_at : (index : ℕ) → Val → Seen → Seen
with_value_at k v o = record o { fields = slice_set o.fields k v }

-- the value in the field of a number of the object to which a value leads
abbrev pub value_behind : List Seen → Val → (index : ℕ) → Computed
value_behind store v k = do
  o ← object_at store v
  Ok (value_at o k)
