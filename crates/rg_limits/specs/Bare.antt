-- Programs whose text has the brackets of its own alone: no name has one in it, no number is one that no source can write, and an array class has no
-- members, which its text wouldn't show. A source has no other ones.
use Rattle.std.specs.Prelude.{◌≡◌, ℕ, ◌≤◌, ◌||◌, ⊤, Bool, false, List, [], Option, Some, None, IfSome, unsigned_abs}
use Rattle.std.specs.List.{AllByRecursion, list_any}
use Rattle.rg_base.specs.declared.limits.TheConstants.{GREATEST_NUMBER}
use Rattle.rg_tree.specs.Tree.{Name, Path, Ty, int, bool, ref, Expr, number, boolean, nil, path, is_nil, neg, not, binary, size, element, Call}
use Rattle.rg_tree.specs.Tree.{Right, value, new, new_tmp, new_iso, freeze, merge, read, more, result_of}
use Rattle.rg_tree.specs.Tree.{stmt, StmtKind, declare, assign, assign_element, call, swap, branch, while, enter, print, collect, return}
use Rattle.rg_tree.specs.Tree.{Else, no_else, otherwise, Block, empty, then as next, Param, Member, field, method, Class, Tree}
use Rattle.rg_limits.specs.Brackets.{opens, closes}

-- whether a byte is a bracket
abbrev pub is_bracket : ℕ → Bool
is_bracket b = opens b || closes b

-- a name without brackets
abbrev pub IsBare : Name → Type 0
IsBare n = list_any is_bracket n ≡ false

pub record IsBarePath (q : Path) : Type 0 where
  pub base : IfSome q.base IsBare
  pub fields : AllByRecursion IsBare q.fields

abbrev pub IsBareType : Ty → Type 0
IsBareType int = ⊤
IsBareType bool = ⊤
IsBareType (ref c n) = IsBare n

abbrev pub IsBareExpr : Expr → Type 0
IsBareExpr (number z) = unsigned_abs z ≤ GREATEST_NUMBER
IsBareExpr (boolean b) = ⊤
IsBareExpr nil = ⊤
IsBareExpr (path q) = IsBarePath q
IsBareExpr (is_nil q) = IsBarePath q
IsBareExpr (neg a) = IsBareExpr a
IsBareExpr (not a) = IsBareExpr a
IsBareExpr (binary op a b) = IsBareExpr a × IsBareExpr b
IsBareExpr (size q) = IsBarePath q
IsBareExpr (element q e) = IsBarePath q × IsBareExpr e

pub record IsBareCall (c : Call) : Type 0 where
  pub target : IsBarePath c.target
  pub method : IsBare c.method
  pub args : AllByRecursion IsBareExpr c.args

abbrev pub IsBareRight : Right → Type 0
IsBareRight (value e) = IsBareExpr e
IsBareRight (new n o) = IsBare n × IfSome o IsBareExpr
IsBareRight (new_tmp n o) = IsBare n × IfSome o IsBareExpr
IsBareRight (new_iso n o m) = IsBare n × IfSome o IsBareExpr
IsBareRight (freeze y) = IsBare y
IsBareRight (merge y) = IsBare y
IsBareRight read = ⊤
IsBareRight more = ⊤
IsBareRight (result_of c) = IsBareCall c

abbrev mutual
  pub IsBareKind : StmtKind → Type 0
  IsBareKind (declare x t r) = IsBare x × IsBareType t × IsBareRight r
  IsBareKind (assign q r) = IsBarePath q × IsBareRight r
  IsBareKind (assign_element q e r) = IsBarePath q × IsBareExpr e × IsBareRight r
  IsBareKind (call c) = IsBareCall c
  IsBareKind (swap y q) = IsBare y × IsBarePath q
  IsBareKind (branch e b other) = IsBareExpr e × IsBareBlock b × IsBareElse other
  IsBareKind (while e b) = IsBareExpr e × IsBareBlock b
  IsBareKind (enter q z b giving) = IsBarePath q × IsBare z × IsBareBlock b × IfSome giving IsBare
  IsBareKind (print e) = IsBareExpr e
  IsBareKind collect = ⊤
  IsBareKind (return e) = IsBareExpr e

  pub IsBareElse : Else → Type 0
  IsBareElse no_else = ⊤
  IsBareElse (otherwise b) = IsBareBlock b

  pub IsBareBlock : Block → Type 0
  IsBareBlock empty = ⊤
  IsBareBlock (next (stmt line k) b) = IsBareKind k × IsBareBlock b

pub record IsBareParam (p : Param) : Type 0 where
  pub name : IsBare p.name
  pub ty : IsBareType p.ty

abbrev pub IsBareMember : Member → Type 0
IsBareMember (field f) = IsBare f.name × IsBareType f.ty
IsBareMember (method m) = IsBare m.name × AllByRecursion IsBareParam m.params × IfSome m.result IsBareType × IsBareBlock m.body

abbrev pub HasBareMembers : (element : Option Ty) → List Member → Type 0
HasBareMembers None ms = AllByRecursion IsBareMember ms
HasBareMembers (Some t) ms = IsBareType t × (ms ≡ [])

pub record IsBareClass (c : Class) : Type 0 where
  pub name : IsBare c.name
  pub members : HasBareMembers c.element c.members

pub record IsBareTree (t : Tree) : Type 0 where
  pub classes : AllByRecursion IsBareClass t.classes
  pub body : IsBareBlock t.body
