-- Which first things to do may collect (docs/architecture.md, "The stack machine").
use Rattle.std.specs.Prelude.{Bool as Truth, true, false, List, [], ◌∷◌, Option, Some, None}
use Rattle.rg_base.specs.declared.event.Cause.{Cause}
use Rattle.rg_base.specs.declared.event.Cause.TheVariants.{Asked, Paced}
use Rattle.rg_tree.specs.Tree.{stmt, StmtKind, declare, assign, assign_element, call, swap, branch, while, enter, print, collect, return, Class}
use Rattle.rg_rules.specs.Outside.Asks.{kind_makes}
use Rattle.rg_rules.specs.Items.{Item, Do, EndAt, LeaveAt, LeaveGiving, Back}

-- a statement that makes an object by `new C` or `new C [e]` may
abbrev pub paced : Truth → Option Cause
paced true = Some Paced
paced false = None

-- why a statement may: it is `collect`, or makes an object by `new C` or `new C [e]`
abbrev pub kind_due : List Class → StmtKind → Option Cause
kind_due classes (declare x t r) = paced (kind_makes classes (declare x t r))
kind_due classes (assign p r) = paced (kind_makes classes (assign p r))
kind_due classes (assign_element q e r) = paced (kind_makes classes (assign_element q e r))
kind_due classes (call c) = None
kind_due classes (swap y p) = None
kind_due classes (branch e first other) = None
kind_due classes (while e body) = None
kind_due classes (enter p z body giving) = None
kind_due classes (print e) = None
kind_due classes collect = Some Asked
kind_due classes (return e) = None

-- why the step of the first thing to do may
abbrev pub first_due : List Class → List Item → Option Cause
first_due classes [] = None
first_due classes (Do (stmt line k) ∷ rest) = kind_due classes k
first_due classes (EndAt k ∷ rest) = None
first_due classes (LeaveAt k ∷ rest) = None
first_due classes (LeaveGiving line k w ∷ rest) = None
first_due classes (Back ∷ rest) = None
