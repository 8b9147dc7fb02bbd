-- Tables that grow: the rows that were there name rows that exist, and stand for the same trees.
use Rattle.std.proofs.Common.{◌≡◌, ℕ, ◌-◌, ◌<◌, ◌≤◌, List, [], ◌∷◌, All, map, option_map, length, drop, Option, Some, None, IfSome, refl, ap, ◌∙◌}
use Rattle.std.proofs.Common.{arith}
use Rattle.std.proofs.lemmas.List.{take-append-le, drop-append-le, length-drop}
use Rattle.std.proofs.lemmas.List.Elements.{All-weaker, All-head, All-tail}
use Rattle.std.proofs.lemmas.Option.{IfSome_then}
use Rattle.rg_tree.specs.declared.rows.Span.{Span}
use Rattle.rg_tree.specs.declared.rows.Path as row_path
use Rattle.rg_tree.specs.declared.rows.ClassRow.{ClassRow}
use Rattle.rg_tree.specs.declared.rows.MemberRow.{MemberRow}
use Rattle.rg_tree.specs.declared.rows.MemberRow.TheVariants.{Field, Method}
use Rattle.rg_tree.specs.declared.rows.ParamRow.{ParamRow}
use Rattle.rg_tree.specs.declared.rows.TypeRow.{TypeRow}
use Rattle.rg_tree.specs.declared.rows.TypeRow.TheVariants as type_row
use Rattle.rg_tree.specs.declared.rows.CallRow.{CallRow}
use Rattle.rg_tree.specs.declared.rows.Right.{Right}
use Rattle.rg_tree.specs.declared.rows.Right.TheVariants as right_row
use Rattle.rg_tree.specs.declared.rows.StmtKind.{StmtKind}
use Rattle.rg_tree.specs.declared.rows.StmtKind.TheVariants as kind_row
use Rattle.rg_tree.specs.declared.rows.StmtRow.{StmtRow}
use Rattle.rg_tree.specs.declared.rows.ExprRow.{ExprRow}
use Rattle.rg_tree.specs.declared.rows.ExprRow.TheVariants as expr_row
use Rattle.rg_tree.specs.Tree.{Expr, path, is_nil, neg, not, size, ref, value, freeze, merge, result_of, Stmt, stmt, call, print, return, otherwise}
use Rattle.rg_tree.specs.Rows.Tables.{Tables, name_at, numbers_in}
use Rattle.rg_tree.specs.Rows.RowTrees.{path_of, type_of, expr_over, expr_at, call_of, right_of, block_over, else_over, kind_over, stmt_over, stmt_at}
use Rattle.rg_tree.specs.Rows.RowTrees.{block_of, param_of, param_at, member_of, member_at, members_under, class_of}
use Rattle.rg_tree.specs.Rows.RowsExist.{IsWithin, IsSpanBelow, IsNameIn, IsPathIn, IsTypeIn, IsExprIn, IsExprNumber, IsCallIn, IsRightIn}
use Rattle.rg_tree.specs.Rows.RowsExist.{IsKindIn, IsStmtIn, IsBlockIn, IsParamIn, IsMemberIn, IsClassIn}
use Rattle.rg_tree.specs.Keeps.{Begins}
use Rattle.rg_tree.proofs.TreesFrom.{length-Begins, get_or-Begins}

-- each table begins with the older one
pub record Grows (t u : Tables) : Type 0 where
  pub names : Begins t.names u.names
  pub numbers : Begins t.numbers u.numbers
  pub params : Begins t.params u.params
  pub members : Begins t.members u.members
  pub classes : Begins t.classes u.classes
  pub stmts : Begins t.stmts u.stmts
  pub exprs : Begins t.exprs u.exprs

-- names and numbers stay, and no table has fewer rows
pub record IsAbove (t u : Tables) : Type 0 where
  pub begins : Begins t.names u.names
  pub numbers : Begins t.numbers u.numbers
  pub names : length t.names ≤ length u.names
  pub listed : length t.numbers ≤ length u.numbers
  pub params : length t.params ≤ length u.params
  pub members : length t.members ≤ length u.members
  pub stmts : length t.stmts ≤ length u.stmts
  pub exprs : length t.exprs ≤ length u.exprs

pub IsAbove-Grows : {t u : Tables} → Grows t u → IsAbove t u
IsAbove-Grows g = record {
  begins = g.names;
  numbers = g.numbers;
  names = length-Begins g.names;
  listed = length-Begins g.numbers;
  params = length-Begins g.params;
  members = length-Begins g.members;
  stmts = length-Begins g.stmts;
  exprs = length-Begins g.exprs;
}

-- f and g agree on the numbers below n
abbrev pub AgreeBelow : {T : Type 0} → ℕ → (ℕ → T) → (ℕ → T) → Type 0
AgreeBelow n f g = (k : ℕ) → k < n → f k ≡ g k

-- what numbers below n stand for
pub map-agree : {T : Type 0} (f g : ℕ → T) (n : ℕ) (ks : List ℕ) → All (λ k. k < n) ks → AgreeBelow n f g → map f ks ≡ map g ks
map-agree f g n [] a e = refl
map-agree f g n (k ∷ ks) a e =
    let h = e k (All-head (λ k. k < n) k ks a) in let t = map-agree f g n ks (All-tail (λ k. k < n) k ks a) e in cc

pub block_over-agree : (f g : ℕ → Stmt) (n : ℕ) (ks : List ℕ) → All (λ k. k < n) ks → AgreeBelow n f g → block_over f ks ≡ block_over g ks
block_over-agree f g n [] a e = refl
block_over-agree f g n (k ∷ ks) a e =
    let h = e k (All-head (λ k. k < n) k ks a) in let t = block_over-agree f g n ks (All-tail (λ k. k < n) k ks a) e in cc

module _ {t u : Tables} (g : IsAbove t u) where
  pub name_at-grows : AgreeBelow (length t.names) (name_at u) (name_at t)
  name_at-grows k l = get_or-Begins g.begins [] k l

  pub numbers_in-grows : (s : Span) → IsWithin t s → numbers_in u s ≡ numbers_in t s
  numbers_in-grows s h =
      let first : s.from ≤ length t.numbers = omega (arith, h.ordered, h.ends) in
      let fits : s.to - s.from ≤ length (drop s.from t.numbers) = omega (arith, h.ends, length-drop s.from t.numbers) in
      rw (
        g.numbers.is,
        drop-append-le s.from t.numbers g.numbers.more first,
        take-append-le (s.to - s.from)
            (drop s.from t.numbers) g.numbers.more fits,
      ) refl

  -- Rows that exist exist later.

  pub IsSpanBelow-grows : (m n : ℕ) → m ≤ n → (s : Span) → IsSpanBelow t m s → IsSpanBelow u n s
  IsSpanBelow-grows m n l s h = record {
    within = record { ordered = h.within.ordered; ends = omega (arith, h.within.ends, g.listed) };
    each = rw (numbers_in-grows s h.within) (All-weaker (λ k. k < m) (λ k. k < n) (λ k b. omega arith) (numbers_in t s) h.each);
  }

  pub IsNameIn-grows : (n : ℕ) → IsNameIn t n → IsNameIn u n
  IsNameIn-grows n h = omega (arith, g.names)

  pub IsPathIn-grows : (p : row_path.Path) → IsPathIn t p → IsPathIn u p
  IsPathIn-grows p h =
      record {
        base = IfSome_then p.base h.base IsNameIn-grows;
        fields =
            IsSpanBelow-grows (length t.names) (length u.names) g.names p.fields h.fields;
      }

  pub IsTypeIn-grows : (y : TypeRow) → IsTypeIn t y → IsTypeIn u y
  IsTypeIn-grows type_row.Int h = tt
  IsTypeIn-grows type_row.Bool h = tt
  IsTypeIn-grows (type_row.Ref c n) h = IsNameIn-grows n h

  pub IsExprIn-grows : (n : ℕ) (r : ExprRow) → IsExprIn t n r → IsExprIn u n r
  IsExprIn-grows n (expr_row.Int z) h = tt
  IsExprIn-grows n (expr_row.Bool b) h = tt
  IsExprIn-grows n expr_row.Nil h = tt
  IsExprIn-grows n (expr_row.Path p) h = IsPathIn-grows p h
  IsExprIn-grows n (expr_row.IsNil p) h = IsPathIn-grows p h
  IsExprIn-grows n (expr_row.Neg a) h = h
  IsExprIn-grows n (expr_row.Not a) h = h
  IsExprIn-grows n (expr_row.Binary op a b) h = h
  IsExprIn-grows n (expr_row.Size p) h = IsPathIn-grows p h
  IsExprIn-grows n (expr_row.At p a) h = (IsPathIn-grows p h.0, h.1)

  pub IsCallIn-grows : (c : CallRow) → IsCallIn t c → IsCallIn u c
  IsCallIn-grows c h = record {
    target = IsPathIn-grows c.path h.target;
    method = IsNameIn-grows c.method h.method;
    args = IsSpanBelow-grows (length t.exprs) (length u.exprs) g.exprs c.args h.args;
  }

  IsExprNumber-grows : (n : ℕ) → IsExprNumber t n → IsExprNumber u n
  IsExprNumber-grows n h = omega (arith, g.exprs)

  pub IsRightIn-grows : (r : Right) → IsRightIn t r → IsRightIn u r
  IsRightIn-grows (right_row.Expr e) h = IsExprNumber-grows e h
  IsRightIn-grows (right_row.New n o) h = (IsNameIn-grows n h.0, IfSome_then o h.1 IsExprNumber-grows)
  IsRightIn-grows (right_row.NewTmp n o) h = (IsNameIn-grows n h.0, IfSome_then o h.1 IsExprNumber-grows)
  IsRightIn-grows (right_row.NewIso n o m) h = (IsNameIn-grows n h.0, IfSome_then o h.1 IsExprNumber-grows)
  IsRightIn-grows (right_row.Freeze n) h = IsNameIn-grows n h
  IsRightIn-grows (right_row.Merge n) h = IsNameIn-grows n h
  IsRightIn-grows right_row.Read h = tt
  IsRightIn-grows right_row.More h = tt
  IsRightIn-grows (right_row.Call c) h = IsCallIn-grows c h

  same_block : (n : ℕ) (s : Span) → IsSpanBelow t n s → IsSpanBelow u n s
  same_block n s h = IsSpanBelow-grows n n (omega arith) s h

  pub IsKindIn-grows : (n : ℕ) (k : StmtKind) → IsKindIn t n k → IsKindIn u n k
  IsKindIn-grows n (kind_row.Let x y r) h = (IsNameIn-grows x h.0, IsTypeIn-grows y h.1, IsRightIn-grows r h.2)
  IsKindIn-grows n (kind_row.Set p r) h = (IsPathIn-grows p h.0, IsRightIn-grows r h.1)
  IsKindIn-grows n (kind_row.SetAt p e r) h = (IsPathIn-grows p h.0, IsExprNumber-grows e h.1, IsRightIn-grows r h.2)
  IsKindIn-grows n (kind_row.Call c) h = IsCallIn-grows c h
  IsKindIn-grows n (kind_row.Swap x p) h = (IsNameIn-grows x h.0, IsPathIn-grows p h.1)
  IsKindIn-grows n (kind_row.If e s o) h = (IsExprNumber-grows e h.0, same_block n s h.1, IfSome_then o h.2 (same_block n))
  IsKindIn-grows n (kind_row.While e s) h = (IsExprNumber-grows e h.0, same_block n s h.1)
  IsKindIn-grows n (kind_row.Enter p x s o) h =
      (IsPathIn-grows p h.0, IsNameIn-grows x h.1, same_block n s h.2, IfSome_then o h.3 IsNameIn-grows)
  IsKindIn-grows n (kind_row.Print e) h = IsExprNumber-grows e h
  IsKindIn-grows n kind_row.Collect h = tt
  IsKindIn-grows n (kind_row.Return e) h = IsExprNumber-grows e h

  pub IsBlockIn-grows : (s : Span) → IsBlockIn t s → IsBlockIn u s
  IsBlockIn-grows s h = IsSpanBelow-grows (length t.stmts) (length u.stmts) g.stmts s h

  pub IsParamIn-grows : (r : ParamRow) → IsParamIn t r → IsParamIn u r
  IsParamIn-grows r h = record { name = IsNameIn-grows r.name h.name; ty = IsTypeIn-grows r.ty h.ty }

  pub IsMemberIn-grows : (r : MemberRow) → IsMemberIn t r → IsMemberIn u r
  IsMemberIn-grows (Field n y line) h = (IsNameIn-grows n h.0, IsTypeIn-grows y h.1)
  IsMemberIn-grows (Method c n ps r b line) h = (
    IsNameIn-grows n h.0,
    IsSpanBelow-grows (length t.params) (length u.params) g.params ps h.1,
    IfSome_then r h.2 IsTypeIn-grows,
    IsBlockIn-grows b h.3,
  )

  pub IsClassIn-grows : (r : ClassRow) → IsClassIn t r → IsClassIn u r
  IsClassIn-grows r h = record {
    name = IsNameIn-grows r.name h.name;
    element = IfSome_then r.element h.element IsTypeIn-grows;
    members = IsSpanBelow-grows (length t.members) (length u.members) g.members r.members h.members;
  }

  -- Rows stand for what they stood for.

  names-grow : (s : Span) → IsSpanBelow t (length t.names) s → map (name_at u) (numbers_in u s) ≡ map (name_at t) (numbers_in t s)
  names-grow s h = ap (map (name_at u)) (numbers_in-grows s h.within)
      ∙ map-agree (name_at u) (name_at t) (length t.names) (numbers_in t s) h.each name_at-grows

  some_name-grows : (o : Option ℕ) → IfSome o (IsNameIn t) → option_map (name_at u) o ≡ option_map (name_at t) o
  some_name-grows None h = refl
  some_name-grows (Some n) h = ap Some (name_at-grows n h)

  pub path_of-grows : (p : row_path.Path) → IsPathIn t p → path_of u p ≡ path_of t p
  path_of-grows p h = let b = some_name-grows p.base h.base in let f = names-grow p.fields h.fields in cc

  pub type_of-grows : (y : TypeRow) → IsTypeIn t y → type_of u y ≡ type_of t y
  type_of-grows type_row.Int h = refl
  type_of-grows type_row.Bool h = refl
  type_of-grows (type_row.Ref c n) h = ap (ref c) (name_at-grows n h)

  some_type-grows : (o : Option TypeRow) → IfSome o (IsTypeIn t) → option_map (type_of u) o ≡ option_map (type_of t) o
  some_type-grows None h = refl
  some_type-grows (Some y) h = ap Some (type_of-grows y h)

  pub expr_over-grows : (n : ℕ) (r : ExprRow) (x y : ℕ → Expr) → IsExprIn t n r → AgreeBelow n x y → expr_over u x r ≡ expr_over t y r
  expr_over-grows n (expr_row.Int z) x y h e = refl
  expr_over-grows n (expr_row.Bool b) x y h e = refl
  expr_over-grows n expr_row.Nil x y h e = refl
  expr_over-grows n (expr_row.Path p) x y h e = ap path (path_of-grows p h)
  expr_over-grows n (expr_row.IsNil p) x y h e = ap is_nil (path_of-grows p h)
  expr_over-grows n (expr_row.Neg a) x y h e = ap neg (e a h)
  expr_over-grows n (expr_row.Not a) x y h e = ap not (e a h)
  expr_over-grows n (expr_row.Binary op a b) x y h e = let l = e a h.0 in let r = e b h.1 in cc
  expr_over-grows n (expr_row.Size p) x y h e = ap size (path_of-grows p h)
  expr_over-grows n (expr_row.At p a) x y h e = let q = path_of-grows p h.0 in let i = e a h.1 in cc

  -- the expressions stay
  module _ (es : AgreeBelow (length t.exprs) (expr_at u) (expr_at t)) where
    pub call_of-grows : (c : CallRow) → IsCallIn t c → call_of u c ≡ call_of t c
    call_of-grows c h =
        let p = path_of-grows c.path h.target in
        let m = name_at-grows c.method h.method in
        let a : map (expr_at u) (numbers_in u c.args) ≡ map (expr_at t) (numbers_in t c.args) =
        ap (map (expr_at u)) (numbers_in-grows c.args h.args.within)
        ∙ map-agree (expr_at u) (expr_at t) (length t.exprs) (numbers_in t c.args) h.args.each es in
        cc

    size-grows : (o : Option ℕ) → IfSome o (IsExprNumber t) → option_map (expr_at u) o ≡ option_map (expr_at t) o
    size-grows None h = refl
    size-grows (Some e) h = ap Some (es e h)

    pub right_of-grows : (r : Right) → IsRightIn t r → right_of u r ≡ right_of t r
    right_of-grows (right_row.Expr e) h = ap value (es e h)
    right_of-grows (right_row.New n o) h = let a = name_at-grows n h.0 in let b = size-grows o h.1 in cc
    right_of-grows (right_row.NewTmp n o) h = let a = name_at-grows n h.0 in let b = size-grows o h.1 in cc
    right_of-grows (right_row.NewIso n o m) h = let a = name_at-grows n h.0 in let b = size-grows o h.1 in cc
    right_of-grows (right_row.Freeze n) h = ap freeze (name_at-grows n h)
    right_of-grows (right_row.Merge n) h = ap merge (name_at-grows n h)
    right_of-grows right_row.Read h = refl
    right_of-grows right_row.More h = refl
    right_of-grows (right_row.Call c) h = ap result_of (call_of-grows c h)

    -- and the statements below n
    module _ (n : ℕ) (x y : ℕ → Stmt) (ss : AgreeBelow n x y) where
      pub block_over-grows : (s : Span) → IsSpanBelow t n s → block_over x (numbers_in u s) ≡ block_over y (numbers_in t s)
      block_over-grows s h = ap (block_over x) (numbers_in-grows s h.within) ∙ block_over-agree x y n (numbers_in t s) h.each ss

      else_over-grows : (o : Option Span) → IfSome o (IsSpanBelow t n) → else_over u x o ≡ else_over t y o
      else_over-grows None h = refl
      else_over-grows (Some s) h = ap otherwise (block_over-grows s h)

      pub kind_over-grows : (k : StmtKind) → IsKindIn t n k → kind_over u x k ≡ kind_over t y k
      kind_over-grows (kind_row.Let v w r) h = let a = name_at-grows v h.0 in let b = type_of-grows w h.1 in let c = right_of-grows r h.2 in cc
      kind_over-grows (kind_row.Set p r) h = let a = path_of-grows p h.0 in let b = right_of-grows r h.1 in cc
      kind_over-grows (kind_row.SetAt p e r) h = let a = path_of-grows p h.0 in let b = es e h.1 in let c = right_of-grows r h.2 in cc
      kind_over-grows (kind_row.Call c) h = ap call (call_of-grows c h)
      kind_over-grows (kind_row.Swap v p) h = let a = name_at-grows v h.0 in let b = path_of-grows p h.1 in cc
      kind_over-grows (kind_row.If e s o) h = let a = es e h.0 in let b = block_over-grows s h.1 in let c = else_over-grows o h.2 in cc
      kind_over-grows (kind_row.While e s) h = let a = es e h.0 in let b = block_over-grows s h.1 in cc
      kind_over-grows (kind_row.Enter p v s o) h =
          let a = path_of-grows p h.0 in
          let b = name_at-grows v h.1 in
          let c = block_over-grows s h.2 in
          let d = some_name-grows o h.3 in
          cc
      kind_over-grows (kind_row.Print e) h = ap print (es e h)
      kind_over-grows kind_row.Collect h = refl
      kind_over-grows (kind_row.Return e) h = ap return (es e h)

      pub stmt_over-grows : (r : StmtRow) → IsStmtIn t n r → stmt_over u x r ≡ stmt_over t y r
      stmt_over-grows r h = ap (stmt r.line) (kind_over-grows r.kind h)

  pub param_of-grows : (r : ParamRow) → IsParamIn t r → param_of u r ≡ param_of t r
  param_of-grows r h = let a = name_at-grows r.name h.name in let b = type_of-grows r.ty h.ty in cc

  pub block_of-grows : AgreeBelow (length t.stmts) (stmt_at u) (stmt_at t) → (s : Span) → IsBlockIn t s → block_of u s ≡ block_of t s
  block_of-grows ss s h = ap (block_over (stmt_at u)) (numbers_in-grows s h.within)
      ∙ block_over-agree (stmt_at u) (stmt_at t) (length t.stmts) (numbers_in t s) h.each ss

  pub member_of-grows : AgreeBelow (length t.params) (param_at u) (param_at t) → AgreeBelow (length t.stmts) (stmt_at u) (stmt_at t)
      → (r : MemberRow) → IsMemberIn t r → member_of u r ≡ member_of t r
  member_of-grows ps ss (Field n y line) h = let a = name_at-grows n h.0 in let b = type_of-grows y h.1 in cc
  member_of-grows ps ss (Method c n qs r b line) h =
      let a = name_at-grows n h.0 in
      let q : map (param_at u) (numbers_in u qs) ≡ map (param_at t) (numbers_in t qs) =
      ap (map (param_at u)) (numbers_in-grows qs h.1.within) ∙ map-agree (param_at u) (param_at t) (length t.params) (numbers_in t qs) h.1.each ps in
      let y = some_type-grows r h.2 in
      let d = block_of-grows ss b h.3 in
      cc

  members_under-grows : AgreeBelow (length t.members) (member_at u) (member_at t) → (element : Option TypeRow) (s : Span)
      → IsSpanBelow t (length t.members) s → members_under u element s ≡ members_under t element s
  members_under-grows ms None s h = ap (map (member_at u)) (numbers_in-grows s h.within)
      ∙ map-agree (member_at u) (member_at t) (length t.members) (numbers_in t s) h.each ms
  members_under-grows ms (Some y) s h = refl

  pub class_of-grows : AgreeBelow (length t.members) (member_at u) (member_at t) → (r : ClassRow) → IsClassIn t r → class_of u r ≡ class_of t r
  class_of-grows ms r h =
      let a = name_at-grows r.name h.name in
      let e = some_type-grows r.element h.element in
      let m = members_under-grows ms r.element r.members h.members in
      cc
