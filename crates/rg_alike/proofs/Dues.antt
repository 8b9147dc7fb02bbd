-- Why the step of the first thing to do may collect is the same by the classes of either of two programs by which the same statements make objects.
use Rattle.std.proofs.Common.{◌≡◌, refl, ap, List, [], ◌∷◌}
use Rattle.rg_tree.specs.Tree.{stmt, StmtKind, declare, assign, assign_element, call, swap, branch, while, enter, print, collect, return, Class}
use Rattle.rg_rules.specs.Items.{Item, Do, EndAt, LeaveAt, LeaveGiving, Back}
use Rattle.rg_rules.specs.Outside.Asks.{item_makes}
use Rattle.rg_stack.specs.Dues.{paced, kind_due, first_due}

-- the same statements make objects
abbrev pub MakeAlike : List Class → List Class → Type 0
MakeAlike cs ds = (i : Item) → item_makes cs i ≡ item_makes ds i

module _ (cs ds : List Class) (same : MakeAlike cs ds) where
  kind-alike : (k : StmtKind) → kind_due cs k ≡ kind_due ds k
  kind-alike (declare x t r) = ap paced (same (Do (stmt 0 (declare x t r))))
  kind-alike (assign p r) = ap paced (same (Do (stmt 0 (assign p r))))
  kind-alike (assign_element q e r) = ap paced (same (Do (stmt 0 (assign_element q e r))))
  kind-alike (call c) = refl
  kind-alike (swap y p) = refl
  kind-alike (branch e b other) = refl
  kind-alike (while e b) = refl
  kind-alike (enter p z b giving) = refl
  kind-alike (print e) = refl
  kind-alike collect = refl
  kind-alike (return e) = refl

  pub due-alike : (its : List Item) → first_due cs its ≡ first_due ds its
  due-alike [] = refl
  due-alike (Do (stmt line k) ∷ rest) = kind-alike k
  due-alike (EndAt k ∷ rest) = refl
  due-alike (LeaveAt k ∷ rest) = refl
  due-alike (LeaveGiving line k w ∷ rest) = refl
  due-alike (Back ∷ rest) = refl
