-- A walk in which each instruction is given what it needs: one that isn't is stuck (docs/architecture.md, "The stack machine").
use Rattle.std.specs.Prelude.{ℕ, if◌then◌else◌, List}
use Rattle.rg_code.specs.declared.op.Op.{Op}
use Rattle.rg_code.specs.Code.{Code}
use Rattle.rg_stack.specs.Effects.{Walked, Stuck, Go, Act, act, walk_by}
use Rattle.rg_stack.specs.Tops.{Work}
use Rattle.rg_stack.specs.Runs.{Stepped, finished_by, step_from_by, step_by}
use Rattle.rg_stack.specs.Needs.{needs}

-- the instruction at an address, where it is given what it needs
abbrev pub given_act : Act
given_act code at o go stack w = if needs code o stack w.machine then act code at o go stack w else Stuck

-- a walk along instructions
abbrev pub given_walk : Code → List Op → (at : ℕ) → Go
given_walk = walk_by given_act

-- where a walk has come
abbrev pub given_finished : Code → (line : ℕ) → Walked → Stepped
given_finished = finished_by given_act

-- the step at a mark
abbrev pub given_step_from : Code → Work → List Op → Stepped
given_step_from = step_from_by given_act

-- the next state
abbrev pub given_step : Code → Work → Stepped
given_step = step_by given_act
