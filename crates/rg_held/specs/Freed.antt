-- What a step frees (docs/architecture.md, "The machine that frees").
use Rattle.std.specs.Prelude.{◌≡◌, ◌≢◌, ◌⊎◌, ℕ, false, Some, None, slice_get}
use Rattle.rg_base.specs.declared.object.Label.{Label}
use Rattle.rg_base.specs.declared.object.Label.TheVariants.{Region}
use Rattle.rg_base.specs.declared.object.Seen.{Seen}
use Rattle.rg_stack.specs.Machine.{Machine}
use Rattle.rg_stack.specs.Runs.{Stepped, Goes, Ends, Trapped, Lost}
use Rattle.rg_stack.specs.Labels.{is_open}
use Rattle.rg_held.specs.Gone.{gone}
use Rattle.rg_held.specs.Shown.{Finds}
use Rattle.rg_held.specs.Temps.{EndedTemp}

-- a region that has gone: it is closed, nothing lies in it, and all that lay in it is gone and hasn't moved to another one
pub record RegionEnded (old new : Machine) (r : ℕ) : Type 0 where
  pub closed : is_open new.windows r ≡ false
  pub empty : (b : ℕ) (u : Seen) → slice_get new.store b ≡ Some u → u.label ≢ Region r
  pub all_gone : (b : ℕ) (u : Seen) → slice_get old.store b ≡ Some u → u.label ≡ Region r → slice_get new.store b ≡ Some gone

-- a label of a region that has gone
abbrev pub GoneRegion : (old new : Machine) → Label → Type 0
GoneRegion old new l = (r : ℕ) × (l ≡ Region r) × RegionEnded old new r

-- an object that was held and isn't any more was a temporary of a window that has ended, or lay in a region that has gone
abbrev pub FreesOnly : (old new : Machine) → Type 0
FreesOnly old new = (a : ℕ) (o : Seen) → slice_get old.store a ≡ Some o → o ≢ gone → Finds new.store a None
    → EndedTemp old new o.label ⊎ GoneRegion old new o.label

-- a step that goes on or ends frees nothing else
abbrev pub StepFrees : Machine → Stepped → Type 0
StepFrees m (Goes w) = FreesOnly m w.machine
StepFrees m (Ends w) = FreesOnly m w.machine
StepFrees m (Trapped t line) = Unit {0}
StepFrees m Lost = Unit {0}
