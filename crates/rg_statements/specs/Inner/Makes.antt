-- New objects and arrays by the numbers of their classes, and the three forms of `new` (docs/language.md, "Steps").
use Rattle.std.specs.Prelude.{◌≡◌, ℕ, ◌<◌, List, [], ◌∷◌, ◌++◌, length, map, reverse, Option, None, Some, option_map, vec_capacity}
use Rattle.std.specs.Prelude.{Result, Ok, Err}
use Rattle.rg_base.specs.declared.words.Manager.{Manager}
use Rattle.rg_base.specs.declared.object.Label.{Label}
use Rattle.rg_base.specs.declared.object.Label.TheVariants.{Region, Temp}
use Rattle.rg_base.specs.declared.object.Seen.{Seen}
use Rattle.rg_base.specs.declared.outcome.Trap.{Trap}
use Rattle.rg_tree.specs.Tree.{Name, Expr, Right, new, new_tmp, new_iso}
use Rattle.rg_tree.specs.Rows.Tables.{Tables, name_at}
use Rattle.rg_tree.specs.Rows.RowTrees.{classes_of, expr_at}
use Rattle.rg_rules.specs.Answers.{◌>>=◌}
use Rattle.rg_rules.specs.Evaluation.{value_of}
use Rattle.rg_rules.specs.RightSides.{Use, with_region, array_size}
use Rattle.rg_rules.specs.State.{Window, State, active, top_number}
use Rattle.rg_values.specs.declared.targets.Aim.{Aim}
use Rattle.rg_store.specs.declared.objects.ObjectRow.{ObjectRow}
use Rattle.rg_store.specs.Shown.{seen_of, opened_as, array_as}
use Rattle.rg_values.specs.declared.refusal.Refusal.{Refusal}
use Rattle.rg_values.specs.declared.refusal.Refusal.TheVariants as refused
use Rattle.rg_statements.specs.declared.new.Made.{Made}
use Rattle.rg_statements.specs.declared.new.Kind.{Kind}
use Rattle.rg_statements.specs.declared.new.Kind.TheVariants as kind
use Rattle.rg_values.specs.declared.state.parts.Parts.{Parts}
use Rattle.rg_values.specs.Shown.{locals_of}
use Rattle.rg_values.specs.Kept.{Kept, window_of}
use Rattle.rg_values.specs.Spots.{use_of}
use Rattle.rg_values.specs.Rooms.{HasRoom}

-- the state with one more object
abbrev pub with_object : State → Seen → State
with_object s o = record s { store = s.store ++ o ∷ [] }

-- the right side
abbrev pub right_by : Kind → Name → Option Expr → Right
right_by kind.Plain x size = new x size
right_by kind.Temporary x size = new_tmp x size
right_by (kind.Owner m) x size = new_iso x size m

abbrev pub right_of : Tables → Made → Right
right_of t m = right_by m.kind (name_at t m.name) (option_map (expr_at t) m.size)

-- to what the new object belongs: the active region, the topmost window, or a new region
abbrev pub label_of : List Window → List Manager → Kind → Label
label_of windows managers kind.Plain = Region (active windows)
label_of windows managers kind.Temporary = Temp (top_number windows)
label_of windows managers (kind.Owner m) = Region (length managers)

-- the managers of all regions, with that of a new one
abbrev pub managers_with : Kind → List Manager → List Manager
managers_with kind.Plain managers = managers
managers_with kind.Temporary managers = managers
managers_with (kind.Owner m) managers = managers ++ m ∷ []

-- what is done with the reference, behind a new region where the object owns one
abbrev pub use_with : Tables → Aim → Kind → Use
use_with t a kind.Plain = use_of t a
use_with t a kind.Temporary = use_of t a
use_with t a (kind.Owner m) = with_region m (use_of t a)

-- what is made of the class of a number: an object with its fields, or an array of a size, which is computed first
abbrev pub made_of : Tables → Kept → (class : ℕ) → Label → Option Expr → Result Seen Trap
made_of t k class label None = Ok (opened_as (classes_of t) class label)
made_of t k class label (Some e) = do
  v ← value_of (classes_of t) k.store (locals_of t k.frame.locals) e
  n ← array_size v
  Ok (array_as (classes_of t) class n label)

-- its label, by the form of `new`
abbrev pub label_in : Tables → Kept → Kind → Label
label_in t k form = label_of (window_of k.window ∷ map window_of (reverse k.outer)) k.managers form

-- it was made, or its size trapped
abbrev pub ObjectIs : Tables → Kept → (class : ℕ) → Made → Result ObjectRow Refusal → Type 0
ObjectIs t k class m (Ok o) =
    (made_of t k class (label_in t k m.kind) (option_map (expr_at t) m.size) ≡ Ok (seen_of o)) × (o.class ≡ class)
ObjectIs t k class m (Err (refused.Trap trap)) = made_of t k class (label_in t k m.kind) (option_map (expr_at t) m.size) ≡ Err trap
ObjectIs t k class m (Err refused.Memory) = Unit {0}

-- there is room for the object, a region, and the reference
pub record HasRooms (p : Parts) (a : Aim) : Type 0 where
  pub store : length p.store.items < vec_capacity p.store
  pub managers : length p.managers.items < vec_capacity p.managers
  pub aim : HasRoom p a
