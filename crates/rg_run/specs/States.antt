-- The states of the stepper over a run (docs/language.md, "Steps").
use Rattle.std.specs.Prelude.{◌≡◌, ◌⊎◌, ℕ, List}
use Rattle.rg_base.specs.declared.outcome.Ended.{Ended}
use Rattle.rg_base.specs.declared.outcome.Ended.TheVariants as ended
use Rattle.rg_base.specs.declared.outcome.Outcome.TheVariants as outcome
use Rattle.rg_base.specs.declared.words.Manager.{Manager}
use Rattle.rg_code.specs.Code.{Code}
use Rattle.rg_machine.specs.Parts.{Parts}
use Rattle.rg_step.specs.Pacers.{Asks}
use Rattle.rg_step.specs.States.{Chain, OneStep, Opens, Standing}
use Rattle.rg_step.specs.Stepping.{fresh}
use Rattle.rg_run.specs.Machine.{Kept}

-- How a run leaves the stepper: at the last state of its whole steps, or at what a step left behind that one which was refused.
abbrev pub LeavesAt : Code → Ended → (last now : Standing) → (before after : List ℕ) → Type 0
LeavesAt code ended.Done last now before after = (now ≡ last) × (after ≡ before)
LeavesAt code ended.Spent last now before after = (now ≡ last) × (after ≡ before)
LeavesAt code ended.OutputFault last now before after = (now ≡ last) × (after ≡ before)
LeavesAt code (ended.Trap kind line) last now before after = OneStep code last now (outcome.Trap kind line) before after
LeavesAt code ended.InputFault last now before after = OneStep code last now outcome.InputFault before after
LeavesAt code ended.Memory last now before after = ((now ≡ last) × (after ≡ before)) ⊎ OneStep code last now outcome.Memory before after

-- The states of a run, one more than it has whole steps: the first is that in which a program opens whose main has this manager, with the choice of
-- whether what is kept moves, each other one follows by a step, and the machine is left at the last one.
pub record RunsThrough (code : Code) (manager : Manager) (m : Kept) (result : Ended) (first last : Asks) (before after : List ℕ) : Type 0 where
  pub parts : Parts
  pub opens : Opens code manager parts
  pub end : Standing
  pub left : List ℕ
  pub chain : Chain code m.steps (record { stepper = record fresh { parts = parts; slides = m.stepper.slides }; pacers = first }) end before left
  pub leaves : LeavesAt code result end (record { stepper = m.stepper; pacers = last }) left after
