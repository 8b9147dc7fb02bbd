-- What a machine shows of one program it shows of each that is the same but for the lines that no mark has (docs/architecture.md, "Modules").
use Rattle.std.specs.Prelude.{ℕ, List}
use Rattle.rg_base.specs.declared.event.Event.{Event}
use Rattle.rg_tree.specs.Tree.{Tree}
use Rattle.rg_tree.specs.Rows.Tables.{Tables}
use Rattle.rg_tree.specs.Rows.RowTrees.{program_of}
use Rattle.rg_rules.specs.Acceptance.{Accepted}
use Rattle.rg_lines.specs.Unlined.{SameButLines}
use Rattle.rg_run.specs.Collected.{Tells}
use Rattle.rg_run.specs.Machine.{Kept}
use Rattle.rg_run.specs.Sound.{Stands}
use Rattle.rg_alike.specs.Standing.{RunStands}

-- where a run of the one stands, one of the other does
abbrev pub StandAlike : Type 0
StandAlike = (t : Tables) (u : Tree) → SameButLines (program_of t) u → Accepted u → (input : List ℕ) (n : ℕ) (m : Kept) → Stands t input n m →
    RunStands u input n m

-- collections that are those of the one's steps are those of the other's
abbrev pub TellAlike : Type 0
TellAlike = (t u : Tree) → SameButLines t u → (input : List ℕ) (steps : ℕ) (events : List Event) → Tells t input steps events →
    Tells u input steps events

-- and for tables that keep the other, it is what rg_run says of tables
abbrev pub StandInTables : Type 0
StandInTables = (u : Tables) (input : List ℕ) (n : ℕ) (m : Kept) → RunStands (program_of u) input n m → Stands u input n m
