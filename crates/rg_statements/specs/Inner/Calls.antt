-- What a call makes of the machine, and what its end does (docs/language.md, "Steps").
use Rattle.std.specs.Prelude.{◌≡◌, ℕ, List, [], ◌∷◌, ◌++◌, map, flat_map, Some, option_map, Result}
use Rattle.rg_base.specs.declared.value.Val.{Val}
use Rattle.rg_tree.specs.declared.rows.CallRow.{CallRow}
use Rattle.rg_tree.specs.Rows.Tables.{Tables, name_at}
use Rattle.rg_tree.specs.Rows.RowTrees.{classes_of, expr_at, stmt_at, call_of, method_of}
use Rattle.rg_tree.specs.declared.rows.MethodRow.{MethodRow}
use Rattle.rg_rules.specs.Items.{Item, Do, items_of}
use Rattle.rg_rules.specs.Bodies.{method_end}
use Rattle.rg_rules.specs.State.{Local, set_in}
use Rattle.rg_rules.specs.Evaluation.{uses, cleared}
use Rattle.rg_rules.specs.RightSides.{called, step_call}
use Rattle.rg_rules.specs.Steps.{stepped}
use Rattle.rg_values.specs.declared.values.paths.Receiver.{Receiver}
use Rattle.rg_values.specs.declared.state.rows.FrameRow.{FrameRow}
use Rattle.rg_values.specs.declared.state.rows.TargetRow.{TargetRow}
use Rattle.rg_values.specs.declared.state.rows.TargetRow.TheVariants as target
use Rattle.rg_values.specs.declared.refusal.Refusal.{Refusal}
use Rattle.rg_values.specs.Kept.{Kept, FrameKept, kept_frame, plain_of, shown, target_of}
use Rattle.rg_values.specs.Shown.{locals_of}
use Rattle.rg_values.specs.Steps.{Does}

-- the step of a call, whose statement has this number and line
abbrev pub CallIs : Tables → (old new : Kept) → (number line : ℕ) → TargetRow → CallRow → Result (Unit {0}) Refusal → Type 0
CallIs t old new number line to c result =
    (input : List ℕ) (rest : List Item) → shown t old.items ≡ Do (stmt_at t number) ∷ rest →
    Does (stepped line (step_call (classes_of t) (record (plain_of t old input) { items = rest }) (target_of t to) (call_of t c)))
    (plain_of t old input) (plain_of t new input) line result

-- the same, once the receiver and its method are found
abbrev pub CalledIs : Tables → (old new : Kept) → (number line : ℕ) → TargetRow → CallRow → Receiver → MethodRow → Result (Unit {0}) Refusal → Type 0
CalledIs t old new number line to c self m result =
    (input : List ℕ) (rest : List Item) → shown t old.items ≡ Do (stmt_at t number) ∷ rest →
    Does
    (stepped line
    (called (classes_of t) (record (plain_of t old input) { items = rest }) (target_of t to) (call_of t c) self.value self.class (Some (method_of t
    m))))
    (plain_of t old input) (plain_of t new input) line result

-- the caller's frame, without what the arguments used up, is the topmost one below, and the items of the method come first
pub record Enters (t : Tables) (old new : Kept) (number : ℕ) (args : List ℕ) (m : MethodRow) : Type 0 where
  pub caller : FrameKept
  pub new_is : new ≡ record old { frame = new.frame; below = old.below ++ caller ∷ []; items = new.items }
  pub target : caller.target ≡ old.frame.target
  pub locals :
      locals_of t caller.locals
      ≡ cleared (flat_map (uses (locals_of t old.frame.locals)) (map (expr_at t) args)) (locals_of t old.frame.locals)
  pub items :
      (rest : List Item) → shown t old.items ≡ Do (stmt_at t number) ∷ rest →
      shown t new.items ≡ items_of (method_of t m).body (method_end (method_of t m).result ++ rest)

-- the variables of the caller, once the result of a call went to its target
abbrev pub delivered : Tables → TargetRow → Val → List Local → List Local
delivered t (target.Declares x ty) v locals = locals ++ record { name = Some (name_at t x); ty = ty; value = v } ∷ []
delivered t (target.Assigns x) v locals = set_in (option_map (name_at t) x) v locals
delivered t target.Drops v locals = locals

-- the topmost of the frames below was taken
abbrev pub TakesFrame : (old new : List FrameRow) → FrameRow → Type 0
TakesFrame old new f = map kept_frame old ≡ map kept_frame new ++ kept_frame f ∷ []
