-- A behaviour that has begun (docs/architecture.md, "How a behaviour begins").
use Rattle.std.specs.Prelude.{◌≡◌, ℕ, List}
use Rattle.rg_tree.specs.Tree.{Method, Tree}
use Rattle.rg_code.specs.Code.{Code}
use Rattle.rg_machine.specs.Parts.{machine_in}
use Rattle.rg_opening.specs.declared.given.Given.{Given}
use Rattle.rg_opening.specs.Opening.{opening_of}
use Rattle.rg_begin.specs.Starts.{Starts}
use Rattle.rg_step.specs.Behaviours.{HoldsFirst}
use Rattle.rg_step.specs.Sound.{IsSound}
use Rattle.rg_step.specs.Steps.{Runs}
use Rattle.rg_step.specs.Stepping.{Stepping}

-- A behaviour has begun on a stepper on which nothing ran, by the code of a program.
pub record Begins (code : Code) (class method : ℕ) (given : List Given) (old new : Stepping) : Type 0 where
  -- the program runs on it, from the state in which the behaviour begins
  pub runs : (t : Tree) (m : Method) → Starts t code class method m given → Runs t code (machine_in new.parts) (opening_of class m given)
  pub sound : IsSound new.parts.heap new.parts.frames
  -- the behaviour's object is held
  pub first : HoldsFirst new.parts
  -- no step was made, and nothing collected
  pub same : new ≡ record old { parts = new.parts }
