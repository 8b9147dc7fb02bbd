-- What holds of contents behind every schedule of a plan that is read (docs/architecture.md, "Schedules").
use Rattle.std.specs.Prelude.{◌≡◌, ℕ, List, Some, None, Ok, slice_get, slice_index_or}
use Rattle.rg_tree.specs.Tree.{Tree}
use Rattle.rg_rules.specs.Acceptance.{Accepted}
use Rattle.rg_rules.specs.Types.{fields_of}
use Rattle.rg_rules.specs.Runs.{Ran}
use Rattle.rg_cown.specs.Cargo.{CargoList}
use Rattle.rg_first.specs.First.{IsOfBehaviour}
use Rattle.rg_plan.specs.Plans.{Turn as Behaviour, PlanOf}
use Rattle.rg_plan.specs.Rules.{plan_of}
use Rattle.rg_sched_atomic.specs.Contents.{contents_at, givens}
use Rattle.rg_sched_atomic.specs.Settings.{setting_of}
use Rattle.rg_sched_atomic.specs.Atomic.{World}
use Rattle.rg_sched_atomic.specs.Events.{world_after}
use Rattle.rg_contents.specs.Rest.{ImagesMayBeOwned, RestMayBeOwned, IsReady}

-- a world behind a schedule of a plan that is read for an accepted program, with contents of its images that may be owned
pub record IsReached (t : Tree) (p : PlanOf) (w : World) : Type 0 where
  pub accepted : Accepted t
  pub bytes : List ℕ
  pub read : plan_of t bytes ≡ Ok p
  pub images : List CargoList
  pub owned : ImagesMayBeOwned t p.cowns images
  pub schedule : List ℕ
  pub world : w ≡ world_after t.classes (setting_of t.classes p images) schedule

-- what is at rest there may be owned
abbrev pub ContentsMayBeOwned : Type 0
ContentsMayBeOwned = (t : Tree) (p : PlanOf) (w : World) → IsReached t p w → RestMayBeOwned t p.cowns w.told.contents

-- so each behaviour may begin on what its cowns have
abbrev pub BeginningIsAllowed : Type 0
BeginningIsAllowed = (t : Tree) (p : PlanOf) (w : World) (i : ℕ) (b : Behaviour) → IsReached t p w → slice_get p.behaviours i ≡ Some b
    → IsReady t b (givens (fields_of t.classes b.class) (contents_at w.told.contents b.cowns))

-- the state of each run fits the program, and has the behaviour's object as its first one
abbrev pub RunsAreOfBehaviours : Type 0
RunsAreOfBehaviours = (t : Tree) (p : PlanOf) (w : World) (i : ℕ) (b : Behaviour) (r : Ran) → IsReached t p w → slice_get p.behaviours i ≡ Some b
    → slice_index_or w.told.runs i None ≡ Some r → IsOfBehaviour t b.class r.state
