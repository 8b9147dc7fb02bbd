-- What a step answers says that it keeps what always holds: its new state is the next one, or the old one.
use Rattle.std.proofs.Common.{sym, ℕ, List}
use Rattle.rg_tree.specs.Rows.Tables.{Tables}
use Rattle.rg_tree.specs.Rows.RowTrees.{classes_of, program_of}
use Rattle.rg_base.specs.declared.outcome.Outcome.{Outcome}
use Rattle.rg_base.specs.declared.outcome.Outcome.TheVariants as outcome
use Rattle.rg_rules.specs.Acceptance.{Accepted}
use Rattle.rg_rules.specs.State.{State}
use Rattle.rg_rules.specs.Steps.{next}
use Rattle.rg_sound.specs.Fit.{Fit}
use Rattle.rg_sound.specs.Laws.{StaysFit}
use Rattle.rg_sound.proofs.Law.{step-keeps, still-kept}
use Rattle.rg_plain.specs.Outcomes.{Settles}
use Rattle.rg_plain.specs.Machine.{Machine, KeepsFit, StepsOn, state_of}

settled-keeps : (t : Tables) (s u : State) (result : Outcome) → Accepted (program_of t) → Fit (program_of t) s →
    Settles (next (classes_of t) s) s u result → StaysFit (program_of t) s u
settled-keeps t s u outcome.Running a f h = step-keeps (program_of t) s u a f h.0
settled-keeps t s u (outcome.Printed v) a f h = step-keeps (program_of t) s u a f h.0
settled-keeps t s u outcome.Done a f h = step-keeps (program_of t) s u a f h.0
settled-keeps t s u (outcome.Trap kind line) a f h = still-kept (program_of t) s u f (sym h.1)
settled-keeps t s u outcome.InputFault a f h = still-kept (program_of t) s u f (sym h)
settled-keeps t s u outcome.Memory a f h = still-kept (program_of t) s u f (sym h)

pub steps-keep : (t : Tables) (old new : Machine) (result : Outcome) (before after : List ℕ) → StepsOn t old new result before after →
    KeepsFit t old new before after
steps-keep t old new result before after h a f = settled-keeps t (state_of t old before) (state_of t new after) result a f h
