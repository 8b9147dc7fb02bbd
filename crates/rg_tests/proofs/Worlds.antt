-- A world has as many behaviours and cowns as its plan, and what was run of an input led to it.
use Rattle.std.proofs.Common.{◌≡◌, ◌∙◌, ℕ, List, length, Option, Ok, ap}
use Rattle.rg_tree.specs.Tree.{Tree}
use Rattle.rg_code.specs.Code.{Code}
use Rattle.rg_cown.specs.Cargo.{CargoList}
use Rattle.rg_input.specs.Numbers.{Pending, Follows, OnInput}
use Rattle.rg_input.proofs.Input.{OnInput-some}
use Rattle.rg_plan.specs.Plans.{PlanOf}
use Rattle.rg_sched_atomic.specs.Settings.{setting_of}
use Rattle.rg_world.specs.Worlds.{WorldIn, IsBehind}
use Rattle.rg_sched.specs.Asking.{Asks}
use Rattle.rg_sched.specs.Running.{Comes}
use Rattle.rg_sched.specs.Schedules.{schedule_of}
use Rattle.rg_world.proofs.Events.{runs-length, contents-length}

pub behaviours-are : (t : Tree) (code : Code) (p : PlanOf) (images : List CargoList) (schedule : List ℕ) (m : WorldIn)
    → IsBehind t code p images schedule m → length m.progress ≡ length p.behaviours
behaviours-are t code p images schedule m h = h.shows.many ∙ runs-length t.classes (setting_of t.classes p images) schedule

pub cowns-are : (t : Tree) (code : Code) (p : PlanOf) (images : List CargoList) (schedule : List ℕ) (m : WorldIn)
    → IsBehind t code p images schedule m → length m.contents ≡ length p.cowns
cowns-are t code p images schedule m h = ap length h.shows.contents ∙ contents-length t.classes p images schedule h.plan.many

-- a world that a schedule came to stands behind numbers
pub stands-behind : (t : Tree) (code : Code) (p : PlanOf) (images : List CargoList) (w : WorldIn) (old new : Pending) (left behind : Option (List ℕ))
    (first last : Asks) → Follows new behind →
    OnInput old new left behind (λ before after. Comes t code p images (schedule_of (length p.behaviours) before) (Ok w) first last) →
    (numbers : List ℕ) × IsBehind t code p images numbers w
stands-behind t code p images w old new left behind first last follows run =
    let ran = OnInput-some old new left behind (λ before after.
    Comes t code p images (schedule_of (length p.behaviours) before) (Ok w) first last) follows run in
    (ran.2.0.0, ran.2.0.2)
