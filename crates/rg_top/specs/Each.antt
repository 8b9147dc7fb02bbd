-- What is so of each program that raises a module, where a command ran it (docs/promises.md, "The headline"). Of the other commands nothing more is
-- said: a source means one program.
use Rattle.std.specs.Prelude.{◌≡◌, ◌⊎◌, ℕ, ⊤, Bool, false, List}
use Rattle.rg_base.specs.declared.words.Manager.TheVariants.{Count, Trace}
use Rattle.rg_tree.specs.Tree.{Tree}
use Rattle.rg_run.specs.Asked.{Asks}
use Rattle.rg_run.specs.Machine.{Kept}
use Rattle.rg_alike.specs.Standing.{RunStands}
use Rattle.rg_words.specs.declared.status.Status.{Status}
use Rattle.rg_words.specs.Commands.{Command, exec, in_module, origin_of, every_of}
use Rattle.rg_words.specs.Commands.{is_scheduled}
use Rattle.rg_sources.specs.Sources.{Sources, Runs}
use Rattle.rg_commands.specs.Asked.{AsksOver, RunAsks, Unasked, input_for, tuned_to}

-- a run of it stands on the machine behind so many steps
abbrev pub StandsForEach : Command → (source : Sources) (input : List ℕ) → (n : ℕ) → Kept → Type 0
StandsForEach (exec file steps every report) source input n m = (t : Tree) → Runs (in_module file) source t → RunStands t input n m
StandsForEach c source input n m = ⊤

-- its run asked the pacers so often
pub record AsksSo (t : Tree) (input : List ℕ) (m : Kept) (first last : Asks) : Type 0 where
  pub stands : RunStands t input m.steps m
  pub count : AsksOver t input m.steps Count first.count.asks last.count.asks
  pub trace : AsksOver t input m.steps Trace first.trace.asks last.trace.asks

abbrev pub AsksForEach : Command → (source : Sources) (input : List ℕ) → Kept → (first last : Asks) → Type 0
AsksForEach (exec file steps every report) source input m first last = (p : Tree) → Runs (in_module file) source p → AsksSo p input m first last
AsksForEach c source input m first last = ⊤

-- What the pacers tell behind a call that has begun a run, where they told these before it: they were tuned to the number of the command, and then the run
-- asked them, which is one of each program that the source means.
abbrev pub Paces : Command → (source : Sources) (input : List ℕ) → Kept → Status → (old new : Asks) → Type 0
Paces c source input m s old new =
    RunAsks (origin_of c) source (input_for (origin_of c) input) m s (tuned_to (every_of c) old) new
    × AsksForEach c source input m (tuned_to (every_of c) old) new

-- So it is of the run that a call has made of the source on the input. Where no run has begun, the pacers weren't asked; of `when` nothing is said.
abbrev pub PacesFor : Command → (source : Sources) (input : List ℕ) → Kept → Status → (old new : Asks) → Type 0
PacesFor c source input m s old new = is_scheduled c ≡ false → Unasked m old new ⊎ Paces c source input m s old new

-- what is so of a source and an input beside that: a run of each program that the source means stands on the machine, and the pacers were asked so
abbrev pub Beside : Command → (source : Sources) (input : List ℕ) → (steps : ℕ) → Kept → Status → (old new : Asks) → Type 0
Beside c source input n m s old new = StandsForEach c source input n m × PacesFor c source input m s old new
