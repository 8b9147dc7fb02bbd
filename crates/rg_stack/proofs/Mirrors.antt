-- The parts of what is shown that speak of the machine. The others, on held references, are facts of each state that fits.
use Rattle.std.proofs.Common.{◌≡◌, List}
use Rattle.rg_base.specs.declared.value.Val.{Val}
use Rattle.rg_tree.specs.Tree.{Class}
use Rattle.rg_rules.specs.State.{State}
use Rattle.rg_rules.specs.Steps.{Stepped as Plain, Went, Trapped as Fails}
use Rattle.rg_code.specs.Code.{Code}
use Rattle.rg_code.specs.Places.{Lies}
use Rattle.rg_stack.specs.Machine.{Machine}
use Rattle.rg_stack.specs.Tops.{Work}
use Rattle.rg_stack.specs.Runs.{Stepped, Goes, Ends, Trapped, Lost, with_printed}
use Rattle.rg_stack.specs.Shows.{ShowsFrames, ShowsWindows, sizes_of, levels_of}
use Rattle.rg_stack.specs.Left.{NoneLeft, SomeLeft}

-- a machine mirrors a state, for the code of a program
pub record Mirrors (classes : List Class) (code : Code) (m : Machine) (p : State) : Type 0 where
  pub slots : ShowsFrames m.frames p.frames
  pub windows : ShowsWindows (sizes_of m.frames) m.windows p.windows
  pub places : Lies classes code.ops (levels_of m.frames p.frames) p.items m.at
  pub windows_made : m.windows_made ≡ p.windows_made
  pub managers : m.managers ≡ p.managers
  pub store : m.store ≡ p.store

-- and so do what is left of the input and what the step printed
pub record MirrorsWork (classes : List Class) (code : Code) (before : List Val) (w : Work) (p : State) : Type 0 where
  pub mirrors : Mirrors classes code w.machine p
  pub input : w.input ≡ p.input
  pub output : p.output ≡ with_printed before w.printed

-- from its parts
abbrev pub mirrors-work : (classes : List Class) (code : Code) (before : List Val) (w : Work) (p : State)
    → ShowsFrames w.machine.frames p.frames → ShowsWindows (sizes_of w.machine.frames) w.machine.windows p.windows
    → Lies classes code.ops (levels_of w.machine.frames p.frames) p.items w.machine.at
    → w.machine.windows_made ≡ p.windows_made → w.machine.managers ≡ p.managers → w.machine.store ≡ p.store
    → w.input ≡ p.input → p.output ≡ with_printed before w.printed → MirrorsWork classes code before w p
mirrors-work classes code before w p slots windows places made managers store input output = record {
  mirrors = record {
    slots = slots;
    windows = windows;
    places = places;
    windows_made = made;
    managers = managers;
    store = store;
  };
  input = input;
  output = output;
}

-- the steps from a state of an output: both go on, both end, or both trap, at the same line
abbrev pub SameMove : List Class → Code → (before : List Val) → Plain → Stepped → Type 0
SameMove classes code before (Went p) (Goes w) = MirrorsWork classes code before w p × SomeLeft p.items
SameMove classes code before (Went p) (Ends w) = MirrorsWork classes code before w p × NoneLeft p.items
SameMove classes code before (Went p) (Trapped t line) = ⊥
SameMove classes code before (Went p) Lost = ⊥
SameMove classes code before (Fails t line) (Goes w) = ⊥
SameMove classes code before (Fails t line) (Ends w) = ⊥
SameMove classes code before (Fails t line) (Trapped u here) = (u ≡ t) × (here ≡ line)
SameMove classes code before (Fails t line) Lost = ⊥
