use Rattle.std.proofs.Common.{◌≡◌, ◌++◌, drop}
use Rattle.rg_base.specs.Text.{text}
use Rattle.rg_world_text.proofs.words.add_values.Given as goal

abbrev pub invariant-loop-k : goal.invariant-loop-k
invariant-loop-k l = l.line ++ text (drop l.k l.values) ≡ l.fn.line ++ text l.values
