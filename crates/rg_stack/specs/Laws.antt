-- The laws: the opening machine shows the opening state, and each step of the code of an accepted program does what the step of the
-- machine that never frees does (docs/architecture.md, "The stack machine").
use Rattle.std.specs.Prelude.{◌≡◌, ℕ, ◌+◌, List, drop, None}
use Rattle.rg_tree.specs.Tree.{Tree}
use Rattle.rg_rules.specs.Acceptance.{Accepted}
use Rattle.rg_rules.specs.Outside.Inputs.{first_asks}
use Rattle.rg_rules.specs.State.{State}
use Rattle.rg_rules.specs.Steps.{next}
use Rattle.rg_rules.specs.Runs as plain
use Rattle.rg_sound.specs.Fit.{Fit}
use Rattle.rg_code.specs.Code.{Code}
use Rattle.rg_code.specs.Lowering.{Lowers}
use Rattle.rg_stack.specs.Machine.{Machine}
use Rattle.rg_stack.specs.Tops.{Work}
use Rattle.rg_stack.specs.Runs.{step, opening, coded}
use Rattle.rg_stack.specs.Given.{given_step}
use Rattle.rg_stack.specs.Shows.{Shows}
use Rattle.rg_stack.specs.Reads.{reads}
use Rattle.rg_code.specs.Dues.{due_at}
use Rattle.rg_stack.specs.Dues.{first_due}
use Rattle.rg_stack.specs.Refusals.{Orderly}
use Rattle.rg_stack.specs.Simulates.{Holds, SameStep, SameRun}
use Rattle.rg_stack.specs.Left.{SomeLeft}

-- the opening machine of an accepted program shows its opening state
abbrev pub OpeningShows : Type 0
OpeningShows = (t : Tree) (code : Code) (input : List ℕ) → Accepted t → Lowers t code →
    Holds t.classes code (opening t code input) (plain.opening t input)

-- a step from a machine that shows a state that fits does what the plain step does, the trap with its line included
abbrev pub StepShows : Type 0
StepShows = (t : Tree) (code : Code) (w : Work) (p : State) → Accepted t → Lowers t code → Fit t p → Holds t.classes code w p →
    w.printed ≡ None → SomeLeft p.items → SameStep t.classes code p.output (next t.classes p) (step code w)

-- so each run of the code of an accepted program shows, behind as many steps, the state of the machine that never frees
abbrev pub RunShows : Type 0
RunShows = (t : Tree) (code : Code) (input : List ℕ) (n : ℕ) → Accepted t → Lowers t code →
    SameRun t.classes code (coded t code input n) (plain.plain t input n)

-- where a step begins, nothing in it is refused behind a change: so a refusal leaves what is shown
abbrev pub StepsOrderly : Type 0
StepsOrderly = (t : Tree) (code : Code) (m : Machine) (p : State) → Accepted t → Lowers t code → Fit t p → Shows t.classes code m p →
    SomeLeft p.items → Orderly code.ops m

-- where a step begins, its code asks for the input exactly where the first thing to do does
abbrev pub StepsAsk : Type 0
StepsAsk = (t : Tree) (code : Code) (m : Machine) (p : State) → Fit t p → Shows t.classes code m p → SomeLeft p.items →
    reads (drop (m.at + 1) code.ops) ≡ first_asks p.items

-- where a step begins, its code may collect exactly where the first thing to do may, and for the same cause
abbrev pub StepsDue : Type 0
StepsDue = (t : Tree) (code : Code) (m : Machine) (p : State) → Accepted t → Fit t p → Shows t.classes code m p → SomeLeft p.items →
    due_at code.ops m.at ≡ first_due t.classes p.items

-- where a step begins, no instruction of it lacks what it needs
abbrev pub StepsGiven : Type 0
StepsGiven = (t : Tree) (code : Code) (w : Work) (p : State) → Accepted t → Lowers t code → Fit t p → Holds t.classes code w p →
    w.printed ≡ None → SomeLeft p.items → given_step code w ≡ step code w
