-- Each run of an accepted program is sound, and of a machine that shows a state what it holds is known. For callers.
use Rattle.std.proofs.Common.{◌≡◌, ℕ, List}
use Rattle.rg_tree.specs.Tree.{Tree}
use Rattle.rg_tree.specs.Rows.Tables.{Tables}
use Rattle.rg_tree.specs.Rows.RowTrees.{program_of}
use Rattle.rg_rules.specs.Acceptance.{Accepted}
use Rattle.rg_rules.specs.Runs.{plain}
use Rattle.rg_sound.proofs.Law.{run-fits, run-allowed, run-holds}
use Rattle.rg_run.specs.Collected.{Tells}
use Rattle.rg_run.specs.Machine.{Kept, Shows}
use Rattle.rg_run.specs.Sound.{IsSound, Stands}
use Rattle.rg_run.proofs.Holds.{holds-of}

-- each run of an accepted program is sound
pub run-is-sound : (t : Tree) → Accepted t → (input : List ℕ) (n : ℕ) → IsSound t input n
run-is-sound t a input n = record {
  fits = λ k l. run-fits t a input k;
  none_stale = λ k l. (run-holds t a input k).none_stale;
  forest = λ k l. (run-holds t a input k).live_regions;
  writes = λ k l. run-allowed t a input k;
}

-- a run whose state the machine shows stands there
pub stands-shown : (t : Tables) (input : List ℕ) (n : ℕ) (m : Kept) → Accepted (program_of t) →
    Shows t m (plain (program_of t) input n).state → m.steps ≡ (plain (program_of t) input n).steps →
    Tells (program_of t) input m.steps m.stepper.events → Stands t input n m
stands-shown t input n m a shows steps told = record {
  shows = shows;
  held = holds-of (program_of t) shows.code m _ (run-fits (program_of t) a input n) shows.state;
  steps = steps;
  told = told;
  sound = run-is-sound (program_of t) a input n;
}
