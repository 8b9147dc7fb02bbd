-- The collections of a run: which steps made them, of which regions, and what they kept (docs/language.md, "Steps").
use Rattle.std.specs.Prelude.{◌≡◌, ◌≢◌, ℕ, ◌+◌, ◌<◌, ◌≤◌, List, Some, length, slice_get}
use Rattle.rg_base.specs.declared.event.Cause.TheVariants.{Asked}
use Rattle.rg_base.specs.declared.event.Event.{Event}
use Rattle.rg_base.specs.declared.words.Manager.{Manager}
use Rattle.rg_base.specs.declared.words.Manager.TheVariants.{Arena, Trace}
use Rattle.rg_tree.specs.Tree.{Tree}
use Rattle.rg_rules.specs.Reach.{plain_reach}
use Rattle.rg_rules.specs.Runs.{plain}
use Rattle.rg_rules.specs.State.{State, active}
use Rattle.rg_stack.specs.Dues.{first_due}

-- the active region of a state has that manager
abbrev pub IsManaged : State → Manager → Type 0
IsManaged s m = slice_get s.managers (active s.windows) ≡ Some m

-- a collection that a run of a program on an input told
pub record Told (t : Tree) (input : List ℕ) (e : Event) : Type 0 where
  -- it is of the step behind so many
  pub before : ℕ
  pub step : e.step ≡ before + 1
  -- whose first thing to do was a `collect`, or made an object by `new C`, as the cause says
  pub due : first_due t.classes (plain t input before).state.items ≡ Some e.cause
  -- of the region that is active behind the step, and its manager
  pub region : e.region ≡ active (plain t input (before + 1)).state.windows
  pub manager : IsManaged (plain t input (before + 1)).state e.manager
  -- which is none that collects nothing
  pub collects : e.manager ≢ Arena
  -- mark and sweep has kept as many objects as the roots of the window reach there
  pub kept : e.manager ≡ Trace → e.kept ≡ length (plain_reach (plain t input (before + 1)).state)

-- the collections of the first steps of a run, so many
pub record Tells (t : Tree) (input : List ℕ) (steps : ℕ) (events : List Event) : Type 0 where
  pub each : (i : ℕ) (e : Event) → slice_get events i ≡ Some e → Told t input e
  -- they are of these steps, and of later ones from one to the next
  pub within : (i : ℕ) (e : Event) → slice_get events i ≡ Some e → e.step ≤ steps
  pub rise : (i j : ℕ) (d e : Event) → i < j → slice_get events i ≡ Some d → slice_get events j ≡ Some e → d.step < e.step
  -- none is left out that a `collect` asked for, but in an arena
  pub all : (k : ℕ) (m : Manager) → k < steps → first_due t.classes (plain t input k).state.items ≡ Some Asked →
      IsManaged (plain t input (k + 1)).state m → m ≢ Arena → (i : ℕ) × (e : Event) × (slice_get events i ≡ Some e) × (e.step ≡ k + 1)
