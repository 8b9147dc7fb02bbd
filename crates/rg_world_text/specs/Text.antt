-- The text of a world: of each behaviour how it stands, and what it printed (docs/architecture.md, "Worlds").
use Rattle.std.specs.Prelude.{ℕ, suc, List, [], ◌∷◌, ◌++◌, codes, decimal, Option, None, slice_index_or}
use Rattle.rg_base.specs.declared.value.Val.{Val}
use Rattle.rg_base.specs.Text.{text}
use Rattle.rg_rules.specs.Runs.{Ran}
use Rattle.rg_plan.specs.Plans.{Turn as Behaviour, PlanOf}
use Rattle.rg_sched_atomic.specs.declared.phase.Phase.{Phase}
use Rattle.rg_sched_atomic.specs.declared.phase.Phase.TheVariants as phase
use Rattle.rg_sched_atomic.specs.Phases.{phase_of, printed_by}
use Rattle.rg_sched_atomic.specs.Atomic.{Told}
use Rattle.rg_words.specs.Statuses.{trap_text}

-- how a behaviour stands
abbrev pub phase_text : Phase → List ℕ
phase_text phase.Waiting = codes "waiting"
phase_text phase.Running = codes "running"
phase_text phase.Done = codes "done"
phase_text (phase.Trap kind line) = trap_text kind ++ codes " at line " ++ decimal line

-- a behaviour, by its number and as the plan names it, as `behaviour 0 A.add done`, and then the values that it printed, a line each
abbrev pub behaviour_text : (number : ℕ) → (name : List ℕ) → Phase → (printed : List Val) → List ℕ
behaviour_text i name phase vs = codes "behaviour " ++ decimal i ++ 32 ∷ name ++ 32 ∷ phase_text phase ++ 10 ∷ text vs

-- behaviours with such runs, the first of which has the number
abbrev pub text_from : (number : ℕ) → List Behaviour → List (Option Ran) → List ℕ
text_from i [] runs = []
text_from i (b ∷ bs) runs =
    behaviour_text i b.name (phase_of (slice_index_or runs i None)) (printed_by (slice_index_or runs i None)) ++ text_from (suc i) bs runs

-- the text of what is told of a plan
abbrev pub world_text : PlanOf → Told → List ℕ
world_text p told = text_from 0 p.behaviours told.runs
