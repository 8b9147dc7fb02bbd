-- What the limits say of statements and bodies.
use Rattle.std.specs.Prelude.{ℕ, suc, ◌≤◌, max}
use Rattle.std.specs.List.{AllByRecursion}
use Rattle.rg_base.specs.declared.limits.TheConstants.{BRACKETS}
use Rattle.rg_tree.specs.Tree.{Stmt, stmt, StmtKind, declare, assign, assign_element, call, swap, branch, while, enter, print, collect, return}
use Rattle.rg_tree.specs.Tree.{Member, Class}
use Rattle.rg_rules.specs.Names.{HasFewNames}
use Rattle.rg_limits.specs.Each.{own_exprs, HoldsWithin, HoldsInMember}
use Rattle.rg_limits.specs.Signs.{exprs_signs, HasFewOwnSigns}
use Rattle.rg_limits.specs.Numbers.{HasOwnSmall}
use Rattle.rg_limits.specs.Opens.{expr_opens, call_opens, right_opens, kind_opens, member_opens}

-- the signs of a statement's own expressions
abbrev pub own_signs : Stmt → ℕ
own_signs (stmt line k) = exprs_signs (own_exprs k)

-- its own numbers are small
abbrev pub IsOwnSmall : Stmt → Type 0
IsOwnSmall (stmt line k) = HasOwnSmall k

-- the brackets of what it says, those of its blocks aside
abbrev pub kind_own_opens : StmtKind → ℕ
kind_own_opens (declare x t r) = right_opens r
kind_own_opens (assign q r) = right_opens r
kind_own_opens (assign_element q e r) = max (suc (expr_opens e)) (right_opens r)
kind_own_opens (call c) = call_opens c
kind_own_opens (swap y q) = 0
kind_own_opens (branch e b other) = expr_opens e
kind_own_opens (while e b) = expr_opens e
kind_own_opens (enter q z b giving) = 0
kind_own_opens (print e) = expr_opens e
kind_own_opens collect = 0
kind_own_opens (return e) = expr_opens e

abbrev pub own_opens : Stmt → ℕ
own_opens (stmt line k) = kind_own_opens k

-- the brackets of a statement, those of its blocks too
abbrev pub stmt_opens : Stmt → ℕ
stmt_opens (stmt line k) = kind_opens k

-- what a statement says has few signs and small numbers
abbrev pub IsFine : StmtKind → Type 0
IsFine k = HasFewOwnSigns k × HasOwnSmall k

-- so has a statement
abbrev pub IsStmtFine : Stmt → Type 0
IsStmtFine (stmt line k) = IsFine k × HoldsWithin IsFine k

-- a member has few names, its statements are such, and in the brackets of a class it has few brackets
abbrev pub IsMemberFine : Member → Type 0
IsMemberFine m = HasFewNames m × HoldsInMember IsFine m × (suc (member_opens m) ≤ BRACKETS)

-- so have the members of a class
abbrev pub IsClassFine : Class → Type 0
IsClassFine c = AllByRecursion IsMemberFine c.members
