-- A step of the stack machine does what a step of the machine that never frees does (docs/architecture.md, "The stack machine").
use Rattle.std.specs.Prelude.{◌≡◌, List}
use Rattle.rg_base.specs.declared.value.Val.{Val}
use Rattle.rg_tree.specs.Tree.{Class}
use Rattle.rg_rules.specs.State.{State}
use Rattle.rg_rules.specs.Steps.{Stepped as Plain, Went, Trapped as Fails}
use Rattle.rg_rules.specs.Runs.{Ending, Ran as PlainRan}
use Rattle.rg_rules.specs.Runs as plain
use Rattle.rg_code.specs.Code.{Code}
use Rattle.rg_stack.specs.Tops.{Work}
use Rattle.rg_stack.specs.Runs.{Stepped, Goes, Ends, Trapped, Lost, Standing, Running, Done, Stopped, Astray, Ran, with_printed}
use Rattle.rg_stack.specs.Shows.{Shows}
use Rattle.rg_stack.specs.Left.{NoneLeft, SomeLeft}

-- what the machine works on shows a state and what is left of its input
pub record Holds (classes : List Class) (code : Code) (w : Work) (p : State) : Type 0 where
  pub shows : Shows classes code w.machine p
  pub input : w.input ≡ p.input

-- the machine shows the state that a step made, and the step printed what the output has beside that before it
pub record Reached (classes : List Class) (code : Code) (before : List Val) (w : Work) (p : State) : Type 0 where
  pub holds : Holds classes code w p
  pub output : p.output ≡ with_printed before w.printed

-- the steps from a state of an output: both go on, both end, or both trap, at the same line
abbrev pub SameStep : List Class → Code → (before : List Val) → Plain → Stepped → Type 0
SameStep classes code before (Went p) (Goes w) = Reached classes code before w p × SomeLeft p.items
SameStep classes code before (Went p) (Ends w) = Reached classes code before w p × NoneLeft p.items
SameStep classes code before (Went p) (Trapped t line) = ⊥
SameStep classes code before (Went p) Lost = ⊥
SameStep classes code before (Fails t line) (Goes w) = ⊥
SameStep classes code before (Fails t line) (Ends w) = ⊥
SameStep classes code before (Fails t line) (Trapped u here) = (u ≡ t) × (here ≡ line)
SameStep classes code before (Fails t line) Lost = ⊥

-- how runs stand, and what their machines show: the state, wherever no trap cut them short
abbrev pub SameEnd : Ending → Standing → Type 0
SameEnd plain.Running Running = Unit {0}
SameEnd plain.Running Done = ⊥
SameEnd plain.Running (Stopped t line) = ⊥
SameEnd plain.Running Astray = ⊥
SameEnd plain.Done Running = ⊥
SameEnd plain.Done Done = Unit {0}
SameEnd plain.Done (Stopped t line) = ⊥
SameEnd plain.Done Astray = ⊥
SameEnd (plain.Stopped t line) Running = ⊥
SameEnd (plain.Stopped t line) Done = ⊥
SameEnd (plain.Stopped t line) (Stopped u here) = (u ≡ t) × (here ≡ line)
SameEnd (plain.Stopped t line) Astray = ⊥

-- runs from the opening: as many steps, the same output and ending, and the machine shows the state
pub record SameRun (classes : List Class) (code : Code) (r : Ran) (p : PlainRan) : Type 0 where
  pub holds : Holds classes code r.work p.state
  pub output : r.output ≡ p.state.output
  pub steps : r.steps ≡ p.steps
  pub ending : SameEnd p.ending r.standing
