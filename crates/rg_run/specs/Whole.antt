-- All that a call of the machine is told of a run, of the same bytes of the input (docs/language.md, "Steps").
use Rattle.std.specs.Prelude.{◌≡◌, ℕ, true, false, List, Option}
use Rattle.rg_base.specs.declared.outcome.Ended.{Ended}
use Rattle.rg_tree.specs.Rows.Tables.{Tables}
use Rattle.rg_tree.specs.Rows.RowTrees.{program_of}
use Rattle.rg_code.specs.Code.{Code}
use Rattle.rg_step.specs.Pacers.{Asks}
use Rattle.rg_run.specs.Asked.{AskedOver, SinceYes}
use Rattle.rg_run.specs.Collected.{Tells}
use Rattle.rg_run.specs.Machine.{Kept}
use Rattle.rg_run.specs.Runs.{RunsOn}
use Rattle.rg_run.specs.States.{RunsThrough}

-- A run as a whole, on these bytes of the input: at most n steps of a program by its code, with these two pacers before it and behind it.
pub record WholeRun (t : Tables) (code : Code) (n : ℕ) (old new : Option (List ℕ)) (m : Kept) (result : Ended) (still : Type 0) (first last : Asks)
    (before after : List ℕ) : Type 0 where
  -- its answer, its text and its state, and what always holds of it
  pub ran : RunsOn t n old new m result still before after
  -- how often each pacer was asked over its whole steps
  pub asked : AskedOver (program_of t) before m.steps first last
  -- where no run has begun, they are as they were
  pub unasked : m.begun ≡ false → last ≡ first
  -- how often each was asked since its last yes
  pub since : SinceYes (program_of t) before m
  -- the collections that it told
  pub told : Tells (program_of t) before m.steps m.stepper.events
  -- where it has begun, the states between its steps
  pub states : m.begun ≡ true → RunsThrough code t.manager m result first last before after
