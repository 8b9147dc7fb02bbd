-- How many blocks stand in one another in a program (docs/language.md, "Limits").
use Rattle.std.specs.Prelude.{ℕ, suc, ◌≤◌, max, List, [], ◌∷◌}
use Rattle.rg_tree.specs.Tree.{stmt, StmtKind, declare, assign, assign_element, call, swap, branch, while, enter, print, collect, return}
use Rattle.rg_tree.specs.Tree.{Else, no_else, otherwise, Block, empty, then as next, Member, field, method, Class, Tree}

abbrev mutual
  -- in a statement
  pub kind_levels : StmtKind → ℕ
  kind_levels (declare x t r) = 0
  kind_levels (assign p r) = 0
  kind_levels (assign_element q e r) = 0
  kind_levels (call c) = 0
  kind_levels (swap y p) = 0
  kind_levels (branch e b other) = max (block_levels b) (else_levels other)
  kind_levels (while e b) = block_levels b
  kind_levels (enter p z b giving) = block_levels b
  kind_levels (print e) = 0
  kind_levels collect = 0
  kind_levels (return e) = 0

  -- in what stands behind the first block of an `if`
  pub else_levels : Else → ℕ
  else_levels no_else = 0
  else_levels (otherwise b) = block_levels b

  -- in a block, which counts itself
  pub block_levels : Block → ℕ
  block_levels empty = 1
  block_levels (next (stmt line k) b) = max (suc (kind_levels k)) (block_levels b)

-- the methods among members have so many at most
abbrev pub AreMembersShallow : (most : ℕ) → List Member → Type 0
AreMembersShallow most [] = Unit {0}
AreMembersShallow most (field f ∷ ms) = AreMembersShallow most ms
AreMembersShallow most (method m ∷ ms) = (block_levels m.body ≤ most) × AreMembersShallow most ms

-- those of classes
abbrev pub AreClassesShallow : (most : ℕ) → List Class → Type 0
AreClassesShallow most [] = Unit {0}
AreClassesShallow most (k ∷ ks) = AreMembersShallow most k.members × AreClassesShallow most ks

-- all bodies of a program
pub record IsShallow (most : ℕ) (t : Tree) : Type 0 where
  pub main : block_levels t.body ≤ most
  pub methods : AreClassesShallow most t.classes
