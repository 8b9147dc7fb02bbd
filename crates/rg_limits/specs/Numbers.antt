-- The numbers that a source can write (docs/language.md, "Limits").
use Rattle.std.specs.Prelude.{◌≤◌, ⊤, unsigned_abs}
use Rattle.std.specs.List.{AllByRecursion}
use Rattle.rg_base.specs.declared.limits.TheConstants.{GREATEST_NUMBER}
use Rattle.rg_tree.specs.Tree.{Expr, number, neg, not, binary, element, StmtKind, Tree}
use Rattle.rg_limits.specs.Each.{own_exprs, HoldsOfEach}

-- The digits of each number in an expression are no greater number than a source can write. A number below 0 has them behind a minus.
abbrev pub HasSmall : Expr → Type 0
HasSmall (number z) = unsigned_abs z ≤ GREATEST_NUMBER
HasSmall (neg a) = HasSmall a
HasSmall (not a) = HasSmall a
HasSmall (binary op a b) = HasSmall a × HasSmall b
HasSmall (element q e) = HasSmall e
HasSmall e = ⊤

-- so it is in a statement, those in its blocks aside
abbrev pub HasOwnSmall : StmtKind → Type 0
HasOwnSmall k = AllByRecursion HasSmall (own_exprs k)

-- and in each statement of a program
abbrev pub HasSmallNumbers : Tree → Type 0
HasSmallNumbers t = HoldsOfEach HasOwnSmall t
