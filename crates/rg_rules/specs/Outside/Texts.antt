-- The text of a run's steps, of a program in tables (docs/language.md, "Values and their text").
use Rattle.std.specs.Prelude.{ℕ, ◌-◌, List, length, drop}
use Rattle.rg_base.specs.declared.value.Val.{Val}
use Rattle.rg_base.specs.Text.{text}
use Rattle.rg_tree.specs.Rows.Tables.{Tables}
use Rattle.rg_tree.specs.Rows.RowTrees.{classes_of}
use Rattle.rg_rules.specs.State.{State}
use Rattle.rg_rules.specs.Runs.{Ran, plain_from}

-- at most k steps from a state
abbrev pub ran : Tables → State → (k : ℕ) → Ran
ran t s k = plain_from (classes_of t) k 0 s

-- the values printed after k steps, with those before
abbrev pub output_after : Tables → State → ℕ → List Val
output_after t s k = (ran t s k).state.output

-- the text that k steps printed
abbrev pub text_of : Tables → State → ℕ → List ℕ
text_of t s k = text (drop (length s.output) (output_after t s k))

-- what step k added to the text, k counted from 1
abbrev pub added : Tables → State → ℕ → List ℕ
added t s k = text (drop (length (output_after t s (k - 1))) (output_after t s k))
