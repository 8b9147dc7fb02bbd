-- Whose method a call is of (docs/language.md, "Steps").
use Rattle.std.specs.Prelude.{List, Result, Ok}
use Rattle.rg_base.specs.declared.object.Seen.{Seen}
use Rattle.rg_base.specs.declared.outcome.Trap.{Trap}
use Rattle.rg_tree.specs.Tree.{Class, Path}
use Rattle.rg_rules.specs.Answers.{◌>>=◌}
use Rattle.rg_rules.specs.State.{Local}
use Rattle.rg_rules.specs.Evaluation.{object_at, path_value}
use Rattle.rg_values.specs.declared.values.paths.Receiver.{Receiver}

-- the value of a path, and the class of the object to which it leads
abbrev pub receiver_of : List Class → List Seen → List Local → Path → Result Receiver Trap
receiver_of classes store locals p = do
  self ← path_value classes store locals p
  o ← object_at store self
  Ok (record { value = self; class = o.class })
