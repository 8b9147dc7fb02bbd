-- Which things to do print, and which answers of a step stand where something was printed or nothing was done (docs/language.md, "Steps").
use Rattle.std.specs.Prelude.{Bool as Truth, true, false, List, [], ◌∷◌}
use Rattle.rg_base.specs.declared.outcome.Outcome.{Outcome}
use Rattle.rg_base.specs.declared.outcome.Outcome.TheVariants as outcome
use Rattle.rg_tree.specs.Tree.{stmt, StmtKind, declare, assign, assign_element, call, swap, branch, while, enter, print, collect, return}
use Rattle.rg_rules.specs.Items.{Item, Do, EndAt, LeaveAt, LeaveGiving, Back}

-- a step that goes on has printed
abbrev pub PrintsOrStays : Outcome → Type 0
PrintsOrStays outcome.Running = ⊥
PrintsOrStays (outcome.Printed v) = Unit {0}
PrintsOrStays outcome.Done = ⊥
PrintsOrStays (outcome.Trap kind line) = Unit {0}
PrintsOrStays outcome.InputFault = Unit {0}
PrintsOrStays outcome.Memory = Unit {0}

-- whether a statement prints
abbrev pub prints : StmtKind → Truth
prints (declare x t r) = false
prints (assign p r) = false
prints (assign_element p e r) = false
prints (call c) = false
prints (swap y p) = false
prints (branch e first other) = false
prints (while e body) = false
prints (enter p z body giving) = false
prints (print e) = true
prints collect = false
prints (return e) = false

-- whether a thing to do prints
abbrev pub item_prints : Item → Truth
item_prints (Do (stmt line k)) = prints k
item_prints (EndAt k) = false
item_prints (LeaveAt k) = false
item_prints (LeaveGiving line k w) = false
item_prints Back = false

-- whether the first thing to do prints
abbrev pub first_prints : List Item → Truth
first_prints [] = false
first_prints (i ∷ rest) = item_prints i
