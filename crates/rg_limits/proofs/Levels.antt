-- Blocks are no deeper than brackets.
use Rattle.std.proofs.Common.{ℕ, suc, ◌≤◌, List, [], ◌∷◌, arith}
use Rattle.rg_tree.specs.Tree.{stmt, StmtKind, declare, assign, assign_element, call, swap, branch, while, enter, print, collect, return}
use Rattle.rg_tree.specs.Tree.{Else, no_else, otherwise, Block, empty, then as next, Member, field, method, Class, Tree}
use Rattle.rg_limits.specs.Depth.{kind_levels, else_levels, block_levels, AreMembersShallow, AreClassesShallow, IsShallow}
use Rattle.rg_limits.specs.Opens.{kind_opens, else_opens, block_opens, members_opens, classes_opens, tree_opens}

mutual
  kind-levels : (k : StmtKind) → kind_levels k ≤ kind_opens k
  kind-levels (declare x t r) = omega arith
  kind-levels (assign q r) = omega arith
  kind-levels (assign_element q e r) = omega arith
  kind-levels (call c) = omega arith
  kind-levels (swap y q) = omega arith
  kind-levels (branch e b other) = let x = block-levels b in let y = else-levels other in omega (arith, x, y)
  kind-levels (while e b) = let x = block-levels b in omega (arith, x)
  kind-levels (enter q z b giving) = block-levels b
  kind-levels (print e) = omega arith
  kind-levels collect = omega arith
  kind-levels (return e) = omega arith

  else-levels : (o : Else) → else_levels o ≤ else_opens o
  else-levels no_else = omega arith
  else-levels (otherwise b) = block-levels b

  block-levels : (b : Block) → block_levels b ≤ suc (block_opens b)
  block-levels empty = omega arith
  block-levels (next (stmt line k) b) = let x = kind-levels k in let y = block-levels b in omega (arith, x, y)

members-levels : (most : ℕ) (ms : List Member) → members_opens ms ≤ most → AreMembersShallow most ms
members-levels most [] l = tt
members-levels most (field f ∷ ms) l = members-levels most ms (omega (arith, l))
members-levels most (method m ∷ ms) l =
    let x = block-levels m.body in (omega (arith, x, l), members-levels most ms (omega (arith, l)))

classes-levels : (most : ℕ) (cs : List Class) → classes_opens cs ≤ most → AreClassesShallow most cs
classes-levels most [] l = tt
classes-levels most (c ∷ cs) l = (members-levels most c.members (omega (arith, l)), classes-levels most cs (omega (arith, l)))

pub opens-shallow : (t : Tree) (most : ℕ) → tree_opens t ≤ most → IsShallow most t
opens-shallow t most l =
    let x = block-levels t.body in
    record { main = omega (arith, x, l); methods = classes-levels most t.classes (omega (arith, l)) }
