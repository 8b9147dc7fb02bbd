-- Where the step of an assignment begins (docs/language.md, "Steps").
use Rattle.rg_tree.specs.Tree.{Right}
use Rattle.rg_tree.specs.Rows.Tables.{Tables}
use Rattle.rg_values.specs.declared.state.parts.Parts.{Parts}
use Rattle.rg_values.specs.declared.targets.Assignment.{Assignment}
use Rattle.rg_values.specs.Spots.{LeftFits, statement_of}
use Rattle.rg_values.specs.Steps.{Stands}

-- the machine is the program's, the next thing to do gives a right side to what stands left of it, and that is the program's
pub record AssignStands (t : Tables) (p : Parts) (to : Assignment) (right : Right) : Type 0 where
  pub stands : Stands t p to.at (statement_of t to.left right)
  pub left : LeftFits t to.left
