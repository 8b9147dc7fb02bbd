-- How many signs of two operands, `and` and `or` a statement has (docs/language.md, "Limits").
use Rattle.std.specs.Prelude.{ℕ, suc, ◌+◌, ◌≤◌, List, [], ◌∷◌}
use Rattle.rg_base.specs.declared.limits.TheConstants.{STATEMENT_SIGNS}
use Rattle.rg_tree.specs.Tree.{Expr, neg, not, binary, element, StmtKind, Tree}
use Rattle.rg_limits.specs.Each.{own_exprs, HoldsOfEach}

-- those of an expression: `not`, `is` and the `-` of one operand are none
abbrev pub expr_signs : Expr → ℕ
expr_signs (neg a) = expr_signs a
expr_signs (not a) = expr_signs a
expr_signs (binary op a b) = suc (expr_signs a + expr_signs b)
expr_signs (element q e) = expr_signs e
expr_signs e = 0

-- those of expressions
abbrev pub exprs_signs : List Expr → ℕ
exprs_signs [] = 0
exprs_signs (e ∷ es) = expr_signs e + exprs_signs es

-- a statement has no more than it may, those of the statements in its blocks not counted
abbrev pub HasFewOwnSigns : StmtKind → Type 0
HasFewOwnSigns k = exprs_signs (own_exprs k) ≤ STATEMENT_SIGNS

-- so has each statement of a program
abbrev pub HasFewSigns : Tree → Type 0
HasFewSigns t = HoldsOfEach HasFewOwnSigns t
