-- How many brackets are open together at most in the canonical text of a program, by its parts (docs/language.md, "Limits"). Where no name has one,
-- these are as many as its text opens (the law `OpensAreBrackets`).
use Rattle.std.specs.Prelude.{ℕ, suc, max, nat_lt, Bool, true, false, List, [], ◌∷◌, Option, Some, None}
use Rattle.rg_tree.specs.Tree.{Expr, neg, not, binary, element, Call}
use Rattle.rg_tree.specs.Tree.{Right, value, new, new_tmp, new_iso, result_of}
use Rattle.rg_tree.specs.Tree.{stmt, StmtKind, declare, assign, assign_element, call, swap, branch, while, enter, print, collect, return}
use Rattle.rg_tree.specs.Tree.{Else, no_else, otherwise, Block, empty, then as next, Member, field, method, Class, Tree}
use Rattle.rg_tree.specs.Canonical.{level, left_level, right_level}

-- in parentheses, where it can't stand bare
abbrev pub parens_opens : Bool → ℕ → ℕ
parens_opens true n = suc n
parens_opens false n = n

abbrev pub expr_opens : Expr → ℕ
expr_opens (neg a) = parens_opens (nat_lt (level a) 7) (expr_opens a)
expr_opens (not a) = parens_opens (nat_lt (level a) 3) (expr_opens a)
expr_opens (binary op a b) =
    max (parens_opens (nat_lt (level a) (left_level op)) (expr_opens a)) (parens_opens (nat_lt (level b) (right_level op)) (expr_opens b))
expr_opens (element q e) = suc (expr_opens e)
expr_opens e = 0

abbrev pub exprs_opens : List Expr → ℕ
exprs_opens [] = 0
exprs_opens (e ∷ es) = max (expr_opens e) (exprs_opens es)

abbrev pub call_opens : Call → ℕ
call_opens c = suc (exprs_opens c.args)

-- an index that may be none
abbrev pub index_opens : Option Expr → ℕ
index_opens None = 0
index_opens (Some e) = suc (expr_opens e)

abbrev pub right_opens : Right → ℕ
right_opens (value e) = expr_opens e
right_opens (new n o) = index_opens o
right_opens (new_tmp n o) = index_opens o
right_opens (new_iso n o m) = index_opens o
right_opens (result_of c) = call_opens c
right_opens r = 0

abbrev mutual
  pub kind_opens : StmtKind → ℕ
  kind_opens (declare x t r) = right_opens r
  kind_opens (assign q r) = right_opens r
  kind_opens (assign_element q e r) = max (suc (expr_opens e)) (right_opens r)
  kind_opens (call c) = call_opens c
  kind_opens (swap y q) = 0
  kind_opens (branch e b other) = max (expr_opens e) (max (suc (block_opens b)) (else_opens other))
  kind_opens (while e b) = max (expr_opens e) (suc (block_opens b))
  kind_opens (enter q z b giving) = suc (block_opens b)
  kind_opens (print e) = expr_opens e
  kind_opens collect = 0
  kind_opens (return e) = expr_opens e

  -- with its braces, where there is an `else`
  pub else_opens : Else → ℕ
  else_opens no_else = 0
  else_opens (otherwise b) = suc (block_opens b)

  -- between its braces
  pub block_opens : Block → ℕ
  block_opens empty = 0
  block_opens (next (stmt line k) b) = max (kind_opens k) (block_opens b)

abbrev pub member_opens : Member → ℕ
member_opens (field f) = 0
member_opens (method m) = suc (block_opens m.body)

abbrev pub members_opens : List Member → ℕ
members_opens [] = 0
members_opens (m ∷ ms) = max (member_opens m) (members_opens ms)

-- those of the members of a class, which stand between its braces; an array class has none, and stands in brackets itself
abbrev pub class_opens : Class → ℕ
class_opens c = suc (members_opens c.members)

abbrev pub classes_opens : List Class → ℕ
classes_opens [] = 0
classes_opens (c ∷ cs) = max (class_opens c) (classes_opens cs)

abbrev pub tree_opens : Tree → ℕ
tree_opens t = max (classes_opens t.classes) (suc (block_opens t.body))
