-- What a world over machines holds, and what it shows of a schedule (docs/architecture.md, "Worlds").
use Rattle.std.specs.Prelude.{◌≡◌, ℕ, List, length, Some, None, slice_get, slice_index, slice_index_or}
use Rattle.rg_tree.specs.Tree.{Tree}
use Rattle.rg_rules.specs.Acceptance.{Accepted}
use Rattle.rg_cown.specs.Cargo.{CargoList}
use Rattle.rg_code.specs.Code.{Code}
use Rattle.rg_code.specs.Lowering.{Lowers}
use Rattle.rg_plan.specs.Plans.{PlanOf}
use Rattle.rg_sched_atomic.specs.Contents.{Content}
use Rattle.rg_sched_atomic.specs.Settings.{setting_of}
use Rattle.rg_sched_atomic.specs.Atomic.{World}
use Rattle.rg_sched_atomic.specs.Events.{world_after}
pub use Rattle.rg_step.specs.Pacers.{SameTuned, both}
use Rattle.rg_contents.specs.Read.{IsReadFor}
use Rattle.rg_world.specs.declared.progress.Progress.{Progress}
use Rattle.rg_world.specs.Standing.{IsProgress}

-- what is held of each behaviour, what each cown has, and which behaviours began, in order
pub record WorldIn : Type 0 where
  pub progress : List Progress
  pub contents : List Content
  pub began : List ℕ

-- It shows a world: of each behaviour how it stands, with the machine of one that is running, what it printed, and how many of its steps were tried;
-- what each cown has; and which behaviours began.
pub record Shows (t : Tree) (code : Code) (m : WorldIn) (w : World) : Type 0 where
  pub many : length m.progress ≡ length w.told.runs
  pub turns : length w.turns ≡ length w.told.runs
  pub each : (i : ℕ) (p : Progress) → slice_get m.progress i ≡ Some p
      → IsProgress t code (slice_index_or w.told.runs i None) (slice_index w.turns i) p
  pub contents : m.contents ≡ w.told.contents
  pub began : m.began ≡ w.began

-- it is the world of a plan behind a schedule, over the machines of a program that has this code
pub record IsBehind (t : Tree) (code : Code) (p : PlanOf) (images : List CargoList) (schedule : List ℕ) (m : WorldIn) : Type 0 where
  pub accepted : Accepted t
  pub lowers : Lowers t code
  pub plan : IsReadFor t p images
  pub shows : Shows t code m (world_after t.classes (setting_of t.classes p images) schedule)
