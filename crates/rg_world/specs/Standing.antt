-- How a behaviour stands on its machine (docs/architecture.md, "Worlds").
use Rattle.std.specs.Prelude.{◌≡◌, ℕ, [], Option, Some, None}
use Rattle.rg_tree.specs.Tree.{Tree}
use Rattle.rg_rules.specs.Runs.{Running, Done, Stopped, Ran}
use Rattle.rg_code.specs.Code.{Code}
use Rattle.rg_machine.specs.Parts.{machine_in}
use Rattle.rg_plain.specs.Outcomes.{EndsMain}
use Rattle.rg_sched_atomic.specs.declared.phase.Phase.{Phase}
use Rattle.rg_sched_atomic.specs.declared.phase.Phase.TheVariants as phase
use Rattle.rg_sched_atomic.specs.Phases.{printed_by}
use Rattle.rg_step.specs.Behaviours.{HoldsFirst}
use Rattle.rg_step.specs.Sound.{IsSound}
use Rattle.rg_step.specs.Steps.{Runs}
use Rattle.rg_step.specs.Stepping.{Stepping}
use Rattle.rg_world.specs.declared.progress.Progress.{Progress}
use Rattle.rg_world.specs.declared.progress.Standing.{Standing}
use Rattle.rg_world.specs.declared.progress.Standing.TheVariants as stands

-- The machine of a behaviour runs the program from the state that its run has come to: it shows that state, as far as it is held, and holds the
-- behaviour's object. There is no input, and the last thing to do is the end of main.
pub record RunsAs (t : Tree) (code : Code) (r : Ran) (s : Stepping) : Type 0 where
  pub ending : r.ending ≡ Running
  pub runs : Runs t code (machine_in s.parts) r.state
  pub sound : IsSound s.parts.heap s.parts.frames
  pub first : HoldsFirst s.parts
  pub input : r.state.input ≡ []
  pub ends : EndsMain r.state.items

-- how a behaviour stands that has such a run, if it has begun
abbrev pub StandsAs : Tree → Code → Option Ran → Standing → Type 0
StandsAs t code o stands.Waiting = o ≡ None
StandsAs t code o (stands.Running s) = (r : Ran) × (o ≡ Some r) × RunsAs t code r s
StandsAs t code o stands.Done = (r : Ran) × (o ≡ Some r) × (r.ending ≡ Done)
StandsAs t code o (stands.Trap kind line) = (r : Ran) × (o ≡ Some r) × (r.ending ≡ Stopped kind line)

-- what is held of a behaviour that has such a run, behind so many steps that were tried
pub record IsProgress (t : Tree) (code : Code) (o : Option Ran) (turns : ℕ) (p : Progress) : Type 0 where
  pub standing : StandsAs t code o p.standing
  pub printed : p.printed ≡ printed_by o
  pub turns_are : p.turns ≡ turns

-- the phase of a behaviour that stands so, and its machine, if it is running
abbrev pub phase_in : Standing → Phase
phase_in stands.Waiting = phase.Waiting
phase_in (stands.Running s) = phase.Running
phase_in stands.Done = phase.Done
phase_in (stands.Trap kind line) = phase.Trap kind line

abbrev pub stepper_in : Standing → Option Stepping
stepper_in stands.Waiting = None
stepper_in (stands.Running s) = Some s
stepper_in stands.Done = None
stepper_in (stands.Trap kind line) = None
