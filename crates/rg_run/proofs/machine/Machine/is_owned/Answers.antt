use Rattle.std.proofs.Common.{◌≤◌, ℕ, List, subst, arith}
use Rattle.rg_tree.specs.Rows.Tables.{Tables}
use Rattle.rg_tree.specs.Rows.RowTrees.{program_of}
use Rattle.rg_rules.specs.Runs.{plain}
use Rattle.rg_machine.specs.Owned.{IsOwned}
use Rattle.rg_run.specs.Machine.{Kept}
use Rattle.rg_run.specs.Sound.{Stands}
use Rattle.rg_run.proofs.machine.Machine.is_owned.Goals as goal

abbrev Says : Kept → Type 0
Says m = (t : Tables) (input : List ℕ) (n : ℕ) → Stands t input n m → IsOwned m.stepper.parts

pub returns : goal.returns
returns c =
    subst Says c.self.view_is (λ t input n st.
    let all : n ≤ n = omega arith in
    c.is_owned.ensures (program_of t) st.shows.code (plain (program_of t) input n).state (st.sound.fits n all) st.shows.state)
