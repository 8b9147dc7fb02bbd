-- The expressions of a statement, and what holds of each statement of a program (docs/language.md, "Limits").
use Rattle.std.specs.Prelude.{⊤, All, List, [], ◌∷◌, option_to_list}
use Rattle.rg_tree.specs.Tree.{Expr, Right, value, new, new_tmp, new_iso, result_of}
use Rattle.rg_tree.specs.Tree.{stmt, StmtKind, declare, assign, assign_element, call, swap, branch, while, enter, print, collect, return}
use Rattle.rg_tree.specs.Tree.{Else, no_else, otherwise, Block, empty, then as next, Member, field, method, Class, Tree}

-- the expressions of a right side
abbrev pub right_exprs : Right → List Expr
right_exprs (value e) = e ∷ []
right_exprs (new n size) = option_to_list size
right_exprs (new_tmp n size) = option_to_list size
right_exprs (new_iso n size m) = option_to_list size
right_exprs (result_of c) = c.args
right_exprs r = []

-- the expressions of a statement, without those of the statements in its blocks
abbrev pub own_exprs : StmtKind → List Expr
own_exprs (declare x t r) = right_exprs r
own_exprs (assign p r) = right_exprs r
own_exprs (assign_element q e r) = e ∷ right_exprs r
own_exprs (call c) = c.args
own_exprs (swap y p) = []
own_exprs (branch e b other) = e ∷ []
own_exprs (while e b) = e ∷ []
own_exprs (enter p z b giving) = []
own_exprs (print e) = e ∷ []
own_exprs collect = []
own_exprs (return e) = e ∷ []

abbrev mutual
  -- P holds of each statement in the blocks of a statement
  pub HoldsWithin : (P : StmtKind → Type 0) → StmtKind → Type 0
  HoldsWithin P (declare x t r) = ⊤
  HoldsWithin P (assign p r) = ⊤
  HoldsWithin P (assign_element q e r) = ⊤
  HoldsWithin P (call c) = ⊤
  HoldsWithin P (swap y p) = ⊤
  HoldsWithin P (branch e b other) = HoldsInBlock P b × HoldsBehind P other
  HoldsWithin P (while e b) = HoldsInBlock P b
  HoldsWithin P (enter p z b giving) = HoldsInBlock P b
  HoldsWithin P (print e) = ⊤
  HoldsWithin P collect = ⊤
  HoldsWithin P (return e) = ⊤

  -- P holds of each statement in what stands behind the first block of an `if`
  pub HoldsBehind : (P : StmtKind → Type 0) → Else → Type 0
  HoldsBehind P no_else = ⊤
  HoldsBehind P (otherwise b) = HoldsInBlock P b

  -- P holds of each statement of a block, and of each one in its statements
  pub HoldsInBlock : (P : StmtKind → Type 0) → Block → Type 0
  HoldsInBlock P empty = ⊤
  HoldsInBlock P (next (stmt line k) b) = (P k × HoldsWithin P k) × HoldsInBlock P b

-- P holds of each statement of a method
abbrev pub HoldsInMember : (P : StmtKind → Type 0) → Member → Type 0
HoldsInMember P (field f) = ⊤
HoldsInMember P (method m) = HoldsInBlock P m.body

-- P holds of each statement of a program
pub record HoldsOfEach (P : StmtKind → Type 0) (t : Tree) : Type 0 where
  pub methods : All (λ (c : Class). All (HoldsInMember P) c.members) t.classes
  pub main : HoldsInBlock P t.body
