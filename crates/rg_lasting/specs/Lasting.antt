-- That a behaviour's object stays held while its method runs (docs/architecture.md, "How a behaviour begins").
use Rattle.std.specs.Prelude.{◌≡◌, ℕ, List}
use Rattle.rg_base.specs.declared.outcome.Outcome.{Outcome}
use Rattle.rg_tree.specs.Tree.{Tree}
use Rattle.rg_rules.specs.State.{State}
use Rattle.rg_code.specs.Code.{Code}
use Rattle.rg_first.specs.First.{IsFirst}
use Rattle.rg_machine.specs.Parts.{machine_in}
use Rattle.rg_step.specs.Behaviours.{HoldsFirst}
use Rattle.rg_step.specs.Sound.{IsSound}
use Rattle.rg_step.specs.States.{Chain, OneStep, Standing}
use Rattle.rg_step.specs.Steps.{Leapt, Runs}

-- a step of a behaviour, whose state has its object in the first place of the store, leaves that object held
abbrev pub FirstLasts : Type 0
FirstLasts = (t : Tree) (code : Code) (old new : Standing) (result : Outcome) (before after : List ℕ) (class : ℕ) (p : State)
    → Runs t code (machine_in old.stepper.parts) p → p.input ≡ before → IsFirst t.classes class p
    → IsSound old.stepper.parts.heap old.stepper.parts.frames → HoldsFirst old.stepper.parts
    → OneStep code old new result before after → HoldsFirst new.stepper.parts

-- so do many that `leap` makes
abbrev pub FirstLastsAlong : Type 0
FirstLastsAlong = (t : Tree) (code : Code) (k : ℕ) (first last : Standing) (input : List ℕ) (class : ℕ) (p : State)
    → Runs t code (machine_in first.stepper.parts) p → p.input ≡ input → IsFirst t.classes class p
    → IsSound first.stepper.parts.heap first.stepper.parts.frames → HoldsFirst first.stepper.parts
    → Leapt code k (machine_in first.stepper.parts) (machine_in last.stepper.parts) → Chain code k first last input input
    → HoldsFirst last.stepper.parts
