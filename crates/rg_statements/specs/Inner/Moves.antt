-- `freeze y` and `merge y`: the regions that they move, and what stands where (docs/language.md, "Steps").
use Rattle.std.specs.Prelude.{◌≡◌, ℕ, ◌<◌, List, [], ◌∷◌, length, Some, IfSome, Result, Ok, Err}
use Rattle.rg_base.specs.declared.object.Label.{Label}
use Rattle.rg_base.specs.declared.object.Label.TheVariants.{Region, Frozen}
use Rattle.rg_base.specs.declared.object.Seen.{Seen}
use Rattle.rg_base.specs.declared.value.Val.{Val}
use Rattle.rg_base.specs.declared.value.Val.TheVariants.{Nil}
use Rattle.rg_base.specs.declared.outcome.Trap.{Trap}
use Rattle.rg_tree.specs.Tree.{Class, Right, freeze, merge}
use Rattle.rg_tree.specs.Rows.Tables.{Tables, name_at}
use Rattle.rg_rules.specs.Evaluation.{object_at}
use Rattle.rg_rules.specs.Regions.{region_of, beneath, relabelled}
use Rattle.rg_rules.specs.RightSides.{frozen, merged}
use Rattle.rg_rules.specs.State.{Window, State, active, value_in, put_local}
use Rattle.rg_values.specs.declared.targets.Aim.{Aim}
use Rattle.rg_statements.specs.declared.move_.Held.{Held}
use Rattle.rg_statements.specs.declared.move_.Move.{Move}
use Rattle.rg_statements.specs.declared.move_.Move.TheVariants as moves
use Rattle.rg_values.specs.Kept.{Kept}
use Rattle.rg_values.specs.Shown.{locals_of}
use Rattle.rg_values.specs.Spots.{use_of}

-- the right side
abbrev pub right_of : Tables → ℕ → Move → Right
right_of t name moves.Freeze = freeze (name_at t name)
right_of t name moves.Merge = merge (name_at t name)

-- the regions that move with a region: all beneath it, or it alone
abbrev pub regions_with : List Class → List Seen → (regions : ℕ) → Move → ℕ → List ℕ
regions_with classes store regions moves.Freeze r = beneath classes store regions (r ∷ [])
regions_with classes store regions moves.Merge r = r ∷ []

-- what their objects become: frozen, or of the active region
abbrev pub label_of : List Window → Move → Label
label_of windows moves.Freeze = Frozen
label_of windows moves.Merge = Region (active windows)

-- the state after a region was moved
abbrev pub moved : List Class → Move → State → ℕ → State
moved classes moves.Freeze s r = frozen classes s r
moved classes moves.Merge s r = merged s r

-- the state in which objects of these regions have another label and the value of a variable, which is nil, went where it goes
abbrev pub carried : Tables → Aim → (name : ℕ) → State → (these : List ℕ) → Label → Val → State
carried t a name s these label v =
    use_of t a (put_local (Some (name_at t name)) (record s { store = relabelled these label s.store }) Nil) v

-- a variable leads to an object
pub record Holds (t : Tables) (k : Kept) (name : ℕ) (h : Held) : Type 0 where
  pub value_is : h.value ≡ value_in (locals_of t k.frame.locals) (Some (name_at t name))
  pub object : Seen
  pub at : object_at k.store h.value ≡ Ok object
  pub region_is : region_of object.label ≡ h.region
  pub made : IfSome h.region (λ r. r < length k.managers)

-- what a variable holds, and the region in which that lies
abbrev pub HeldIs : Tables → Kept → (name : ℕ) → Result Held Trap → Type 0
HeldIs t k name (Ok h) = Holds t k name h
HeldIs t k name (Err kind) = object_at k.store (value_in (locals_of t k.frame.locals) (Some (name_at t name))) ≡ Err kind
