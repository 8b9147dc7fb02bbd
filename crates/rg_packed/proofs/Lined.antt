-- Programs whose marks have lines that are bounded, and whose array classes have no members: such is what a source spells.
use Rattle.std.proofs.Common.{◌≡◌, ℕ, ◌≤◌, List, [], Option, Some, None}
use Rattle.std.specs.List.{AllByRecursion}
use Rattle.rg_tree.specs.Tree.{Ty, Expr, Path, Right, Stmt, stmt, StmtKind, declare, assign, assign_element, call, swap, branch, while, enter, print}
use Rattle.rg_tree.specs.Tree.{collect, return, Else, no_else, otherwise, Block, empty, then as next, Member, field, method, Class, Tree}
use Rattle.rg_tree.specs.Grammar.{assigned}

abbrev mutual
  -- the statements in the blocks of a statement are on such lines
  pub IsLinedKind : (most : ℕ) → StmtKind → Type 0
  IsLinedKind most (declare x t r) = Unit {0}
  IsLinedKind most (assign p r) = Unit {0}
  IsLinedKind most (assign_element q e r) = Unit {0}
  IsLinedKind most (call c) = Unit {0}
  IsLinedKind most (swap y p) = Unit {0}
  IsLinedKind most (branch e b other) = IsLinedBlock most b × IsLinedElse most other
  IsLinedKind most (while e b) = IsLinedBlock most b
  IsLinedKind most (enter p z b giving) = IsLinedBlock most b
  IsLinedKind most (print e) = Unit {0}
  IsLinedKind most collect = Unit {0}
  IsLinedKind most (return e) = Unit {0}

  pub IsLinedElse : (most : ℕ) → Else → Type 0
  IsLinedElse most no_else = Unit {0}
  IsLinedElse most (otherwise b) = IsLinedBlock most b

  pub IsLinedBlock : (most : ℕ) → Block → Type 0
  IsLinedBlock most empty = Unit {0}
  IsLinedBlock most (next (stmt line k) b) = (line ≤ most) × IsLinedKind most k × IsLinedBlock most b

abbrev pub IsLinedStmt : (most : ℕ) → Stmt → Type 0
IsLinedStmt most (stmt line k) = (line ≤ most) × IsLinedKind most k

abbrev pub IsLinedMember : (most : ℕ) → Member → Type 0
IsLinedMember most (field f) = Unit {0}
IsLinedMember most (method m) = (m.line ≤ most) × IsLinedBlock most m.body

abbrev pub HasLinedMembers : (most : ℕ) → (element : Option Ty) → List Member → Type 0
HasLinedMembers most None ms = AllByRecursion (IsLinedMember most) ms
HasLinedMembers most (Some t) ms = ms ≡ []

abbrev pub IsLinedClass : (most : ℕ) → Class → Type 0
IsLinedClass most c = HasLinedMembers most c.element c.members

pub record IsLined (most : ℕ) (t : Tree) : Type 0 where
  pub classes : AllByRecursion (IsLinedClass most) t.classes
  pub body : IsLinedBlock most t.body
  pub line : t.line ≤ most

pub assigned-lined : (most : ℕ) (q : Path) (o : Option Expr) (r : Right) → IsLinedKind most (assigned q o r)
assigned-lined most q None r = tt
assigned-lined most q (Some e) r = tt

pub then-lined : (most : ℕ) (s : Stmt) (b : Block) → IsLinedStmt most s → IsLinedBlock most b → IsLinedBlock most (next s b)
then-lined most (stmt line k) b h g = (h.0, h.1, g)
