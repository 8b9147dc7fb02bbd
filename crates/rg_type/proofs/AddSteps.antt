-- A variable is added behind what was judged, unless memory runs out.
use Rattle.std.proofs.Common.{◌≡◌, ℕ, [], ◌∷◌, ◌++◌, Ok, Err, Result, OnErr, OnOk, refl, arith}
use Rattle.std.proofs.lemmas.List.Elements.{All-push}
use Rattle.rg_base.specs.declared.fault.Stop.{Stop}
use Rattle.rg_base.specs.declared.fault.Stop.TheVariants as stop
use Rattle.rg_tree.specs.Rows.Tables.{Tables}
use Rattle.rg_rules.specs.Answers.{Answer, at_line}
use Rattle.rg_rules.specs.Environment.{Env}
use Rattle.rg_flow.specs.Scope.{Slot, Scope, IsSlotIn}
use Rattle.rg_flow.specs.States.{IsReadable}
use Rattle.rg_type.specs.Inner.Changing.{LeavesAs}

pub LeavesAs-added : (rule : Answer Env) (line : ℕ) (new added : Env) (r : Result (Unit {0}) Stop) → rule ≡ Ok added →
    OnErr r (r ≡ Err stop.Memory) → OnOk r (new ≡ added) → LeavesAs (at_line line rule) new r
LeavesAs-added rule line new added (Ok u) h memory is = rw (h, is) refl
LeavesAs-added rule line new added (Err (stop.Fault f)) h memory is = absurd (grind arith)
LeavesAs-added rule line new added (Err stop.Memory) h memory is = tt

pub IsReadable-added : (t : Tables) (old : Scope) (depth : ℕ) (s : Slot) → IsReadable t old → IsSlotIn t s →
    IsReadable t (record { depth = depth; slots = old.slots ++ s ∷ [] })
IsReadable-added t old depth s h is = record { names = h.names; slots = All-push (IsSlotIn t) old.slots s h.slots is }
