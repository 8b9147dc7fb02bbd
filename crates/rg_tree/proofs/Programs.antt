-- The laws that the calls of a program state.
use Rattle.std.proofs.Common.{◌≡◌, ℕ, Bool, true, false, ◌+◌, ◌<◌, ◌^◌, ◌-◌, List, [], ◌∷◌, ◌++◌, map, length, get_or, Some, is_some, if◌then◌else◌}
use Rattle.std.proofs.Common.{slice_get, refl, sym, ap, ◌∙◌, arith, length-append, lit<}
use Rattle.std.proofs.lemmas.Option.{slice_get-map, none-some}
use Rattle.std.proofs.lemmas.List.{length-map, map-append}
use Rattle.std.proofs.lemmas.List.Elements.{All-nil}
use Rattle.rg_base.specs.declared.words.Manager.{Manager}
use Rattle.rg_tree.specs.declared.rows.Span.{Span}
use Rattle.rg_tree.specs.declared.rows.ClassRow.{ClassRow}
use Rattle.rg_tree.specs.declared.rows.MemberRow.{MemberRow}
use Rattle.rg_tree.specs.declared.rows.ParamRow.{ParamRow}
use Rattle.rg_tree.specs.declared.rows.StmtRow.{StmtRow}
use Rattle.rg_tree.specs.declared.rows.ExprRow.{ExprRow}
use Rattle.rg_tree.specs.Tree.{Name, nil}
use Rattle.rg_tree.specs.Rows.Tables.{Tables, at_first, number_of, with_name}
use Rattle.rg_tree.specs.Rows.RowTrees.{expr_over, exprs_of, expr_at, expr_of, stmt_over, stmts_of, stmt_at, stmt_of, no_stmt, block_of, param_of}
use Rattle.rg_tree.specs.Rows.RowTrees.{params_of, param_at, no_param, member_of, members_of, member_at, no_member, class_of, classes_of, no_program}
use Rattle.rg_tree.specs.Rows.RowTrees.{program_of}
use Rattle.rg_tree.specs.Rows.RowsExist.{IsExprIn, IsStmtIn, IsBlockIn, IsParamIn, IsMemberIn, IsClassIn, EachRow, AreRows}
use Rattle.rg_tree.specs.Keeps.{Begins, Keeps}
use Rattle.rg_tree.proofs.TreesFrom.{Begins-same, Begins-more, Begins-whole, get_or-Begins, EachFrom-EachRow, EachRow-push, slice_get-push}
use Rattle.rg_tree.proofs.TreesFrom.{map-EachRow, map-Begins, get_or-map, length-trees_from, trees_from-at, trees_from-grows}
use Rattle.rg_tree.proofs.Grows.{Grows, IsAbove-Grows, AgreeBelow, IsExprIn-grows, IsKindIn-grows, IsBlockIn-grows, IsParamIn-grows, IsMemberIn-grows}
use Rattle.rg_tree.proofs.Grows.{IsClassIn-grows, expr_over-grows, stmt_over-grows, param_of-grows, member_of-grows, class_of-grows, block_of-grows}
use Rattle.rg_tree.proofs.Name.{AreDistinct-with_name}

-- How many trees there are.

pub length-exprs_of : (t : Tables) → length (exprs_of t) ≡ length t.exprs
unfolding exprs_of
length-exprs_of t = omega (arith, length-trees_from nil (expr_over t) [] t.exprs)

pub length-stmts_of : (t : Tables) → length (stmts_of t) ≡ length t.stmts
unfolding stmts_of
length-stmts_of t = omega (arith, length-trees_from no_stmt (stmt_over t) [] t.stmts)

pub length-params_of : (t : Tables) → length (params_of t) ≡ length t.params
unfolding params_of
length-params_of t = length-map t.params (param_of t)

pub length-members_of : (t : Tables) → length (members_of t) ≡ length t.members
unfolding members_of
length-members_of t = length-map t.members (member_of t)

pub length-classes_of : (t : Tables) → length (classes_of t) ≡ length t.classes
unfolding classes_of
length-classes_of t = length-map t.classes (class_of t)

-- trees that begin with others agree below their number
agree : {T : Type 0} {xs ys : List T} (none : T) (n : ℕ) → length xs ≡ n → Begins xs ys → AgreeBelow n (λ k. get_or ys k none) (λ k. get_or xs k none)
agree none n l b k h = get_or-Begins b none k (omega arith)

-- Tables that grow keep what they held.

pub Grows-same : (t : Tables) → Grows t t
Grows-same t = record {
  names = Begins-same t.names;
  numbers = Begins-same t.numbers;
  params = Begins-same t.params;
  members = Begins-same t.members;
  classes = Begins-same t.classes;
  stmts = Begins-same t.stmts;
  exprs = Begins-same t.exprs;
}

module _ {t u : Tables} (g : Grows t u) (h : AreRows t) where
  exprs_of-grows : Begins (exprs_of t) (exprs_of u)
  unfolding exprs_of
  exprs_of-grows =
      trees_from-grows nil (expr_over t) (expr_over u) (IsExprIn t)
      (λ n r f a. expr_over-grows (IsAbove-Grows g) n r f f a (λ k l. refl)) g.exprs h.exprs

  pub expr_at-grows : AgreeBelow (length t.exprs) (expr_at u) (expr_at t)
  expr_at-grows = agree nil (length t.exprs) (length-exprs_of t) exprs_of-grows

  stmts_of-grows : Begins (stmts_of t) (stmts_of u)
  unfolding stmts_of
  stmts_of-grows =
      trees_from-grows no_stmt (stmt_over t) (stmt_over u) (IsStmtIn t)
      (λ n r f a. stmt_over-grows (IsAbove-Grows g) expr_at-grows n f f (λ k l. refl) r a) g.stmts h.stmts

  pub stmt_at-grows : AgreeBelow (length t.stmts) (stmt_at u) (stmt_at t)
  stmt_at-grows = agree no_stmt (length t.stmts) (length-stmts_of t) stmts_of-grows

  params_of-grows : Begins (params_of t) (params_of u)
  unfolding params_of
  params_of-grows = map-Begins (param_of t) (param_of u) g.params (λ k r s. sym (param_of-grows (IsAbove-Grows g) r (h.params k r s)))

  pub param_at-grows : AgreeBelow (length t.params) (param_at u) (param_at t)
  param_at-grows = agree no_param (length t.params) (length-params_of t) params_of-grows

  members_of-grows : Begins (members_of t) (members_of u)
  unfolding members_of
  members_of-grows =
      map-Begins (member_of t) (member_of u) g.members
      (λ k r s. sym (member_of-grows (IsAbove-Grows g) param_at-grows stmt_at-grows r (h.members k r s)))

  pub member_at-grows : AgreeBelow (length t.members) (member_at u) (member_at t)
  member_at-grows = agree no_member (length t.members) (length-members_of t) members_of-grows

  pub classes_of-grows : Begins (classes_of t) (classes_of u)
  unfolding classes_of
  classes_of-grows =
      map-Begins (class_of t) (class_of u) g.classes (λ k r s. sym (class_of-grows (IsAbove-Grows g) member_at-grows r (h.classes k r s)))

  pub Keeps-Grows : Keeps t u
  Keeps-Grows = record {
    names = g.names;
    numbers = g.numbers;
    params = params_of-grows;
    members = members_of-grows;
    classes = classes_of-grows;
    stmts = stmts_of-grows;
    exprs = exprs_of-grows;
  }

  -- where main and the classes are the old ones, so is the program
  pub program_of-grows : u.classes ≡ t.classes → u.manager ≡ t.manager → u.body ≡ t.body → u.line ≡ t.line → program_of u ≡ program_of t
  program_of-grows ec em eb el =
      let l : length (classes_of t) ≡ length (classes_of u) = length-classes_of t ∙ sym (ap length ec) ∙ sym (length-classes_of u) in
      let c : classes_of u ≡ classes_of t = Begins-whole classes_of-grows l in
      let b : block_of u u.body ≡ block_of t t.body = ap (block_of u) eb ∙ block_of-grows (IsAbove-Grows g) stmt_at-grows t.body h.body in
      cc

  -- Rows that exist exist later.

  pub exprs-kept : EachRow (IsExprIn u) t.exprs
  exprs-kept k r s = IsExprIn-grows (IsAbove-Grows g) k r (h.exprs k r s)

  pub stmts-kept : EachRow (IsStmtIn u) t.stmts
  stmts-kept k r s = IsKindIn-grows (IsAbove-Grows g) k r.kind (h.stmts k r s)

  pub params-kept : EachRow (λ k r. IsParamIn u r) t.params
  params-kept k r s = IsParamIn-grows (IsAbove-Grows g) r (h.params k r s)

  pub members-kept : EachRow (λ k r. IsMemberIn u r) t.members
  members-kept k r s = IsMemberIn-grows (IsAbove-Grows g) r (h.members k r s)

  pub classes-kept : EachRow (λ k r. IsClassIn u r) t.classes
  classes-kept k r s = IsClassIn-grows (IsAbove-Grows g) r (h.classes k r s)

  pub body-kept : IsBlockIn u t.body
  body-kept = IsBlockIn-grows (IsAbove-Grows g) t.body h.body

-- Each row's tree.

module _ (t : Tables) (h : AreRows t) where
  pub expr_at-row : (e : ℕ) (r : ExprRow) → slice_get t.exprs e ≡ Some r → expr_at t e ≡ expr_of t r
  unfolding exprs_of
  expr_at-row e r s =
      let z : 0 + e ≡ e = omega arith in
      rw z at (trees_from-at nil (expr_over t) (IsExprIn t)
      (λ n q x y i a. expr_over-grows (IsAbove-Grows (Grows-same t)) n q x y i a) [] 0 t.exprs refl
      (EachFrom-EachRow (IsExprIn t) t.exprs h.exprs) e r s)

  pub stmt_at-row : (n : ℕ) (r : StmtRow) → slice_get t.stmts n ≡ Some r → stmt_at t n ≡ stmt_of t r
  unfolding stmts_of
  stmt_at-row n r s =
      let z : 0 + n ≡ n = omega arith in
      rw z at (trees_from-at no_stmt (stmt_over t) (IsStmtIn t)
      (λ m q x y i a. stmt_over-grows (IsAbove-Grows (Grows-same t)) (λ k l. refl) m x y a q i) [] 0 t.stmts refl
      (EachFrom-EachRow (IsStmtIn t) t.stmts h.stmts) n r s)

pub param_at-row : (t : Tables) (n : ℕ) (r : ParamRow) → slice_get t.params n ≡ Some r → param_at t n ≡ param_of t r
unfolding params_of
param_at-row t n r s = get_or-map (param_of t) t.params n r no_param s

pub member_at-row : (t : Tables) (n : ℕ) (r : MemberRow) → slice_get t.members n ≡ Some r → member_at t n ≡ member_of t r
unfolding members_of
member_at-row t n r s = get_or-map (member_of t) t.members n r no_member s

pub classes_of-row : (t : Tables) (n : ℕ) (r : ClassRow) → slice_get t.classes n ≡ Some r → slice_get (classes_of t) n ≡ Some (class_of t r)
unfolding classes_of
classes_of-row t n r s = slice_get-map (class_of t) t.classes n ∙ rw s refl

-- No rows.

pub AreRows-at_first : AreRows at_first
AreRows-at_first = record {
  names = λ i j d l m. absurd (omega arith);
  exprs = λ k r s. absurd (none-some r s);
  stmts = λ k r s. absurd (none-some r s);
  params = λ k r s. absurd (none-some r s);
  members = λ k r s. absurd (none-some r s);
  classes = λ k r s. absurd (none-some r s);
  body = record { within = record { ordered = omega arith; ends = omega arith }; each = All-nil (λ k. k < 0) };
  counted = lit< tt;
}

pub program_of-at_first : program_of at_first ≡ no_program
unfolding exprs_of stmts_of classes_of
program_of-at_first = refl

-- One thing more: what each call adds to the tables, and what that gives.

module _ (t : Tables) (h : AreRows t) (name : Name) where
  abbrev named : Tables
  named = record t { names = with_name t.names name }

  with_name-Begins : (names : List Name) → Begins names (with_name names name)
  with_name-Begins names = by (is_some (number_of names name))
    where
      by : (there : Bool) → Begins names (if there then names else names ++ name ∷ [])
      by true = Begins-same names
      by false = Begins-more names (name ∷ [])

  pub Grows-name : Grows t named
  Grows-name = record {
    names = with_name-Begins t.names;
    numbers = Begins-same t.numbers;
    params = Begins-same t.params;
    members = Begins-same t.members;
    classes = Begins-same t.classes;
    stmts = Begins-same t.stmts;
    exprs = Begins-same t.exprs;
  }

  pub AreRows-name : AreRows named
  AreRows-name = let g = Grows-name in record {
    names = AreDistinct-with_name t.names name h.names;
    exprs = exprs-kept g h;
    stmts = stmts-kept g h;
    params = params-kept g h;
    members = members-kept g h;
    classes = classes-kept g h;
    body = body-kept g h;
    counted = h.counted;
  }

module _ (t : Tables) (h : AreRows t) (more : List ℕ) where
  abbrev listed : Tables
  listed = record t { numbers = t.numbers ++ more }

  pub Grows-numbers : Grows t listed
  Grows-numbers = record {
    names = Begins-same t.names;
    numbers = Begins-more t.numbers more;
    params = Begins-same t.params;
    members = Begins-same t.members;
    classes = Begins-same t.classes;
    stmts = Begins-same t.stmts;
    exprs = Begins-same t.exprs;
  }

  pub AreRows-numbers : AreRows listed
  AreRows-numbers = let g = Grows-numbers in record {
    names = h.names;
    exprs = exprs-kept g h;
    stmts = stmts-kept g h;
    params = params-kept g h;
    members = members-kept g h;
    classes = classes-kept g h;
    body = body-kept g h;
    counted = h.counted;
  }

module _ (t : Tables) (h : AreRows t) (r : ParamRow) (i : IsParamIn t r) where
  abbrev with_param : Tables
  with_param = record t { params = t.params ++ r ∷ [] }

  pub Grows-param : Grows t with_param
  Grows-param = record {
    names = Begins-same t.names;
    numbers = Begins-same t.numbers;
    params = Begins-more t.params (r ∷ []);
    members = Begins-same t.members;
    classes = Begins-same t.classes;
    stmts = Begins-same t.stmts;
    exprs = Begins-same t.exprs;
  }

  pub AreRows-param : AreRows with_param
  AreRows-param = let g = Grows-param in record {
    names = h.names;
    exprs = exprs-kept g h;
    stmts = stmts-kept g h;
    params = EachRow-push (λ k q. IsParamIn with_param q) t.params r (params-kept g h) (IsParamIn-grows (IsAbove-Grows g) r i);
    members = members-kept g h;
    classes = classes-kept g h;
    body = body-kept g h;
    counted = h.counted;
  }

  pub param_at-push : (n : ℕ) → n ≡ length t.params → param_at with_param n ≡ param_of t r
  param_at-push n e =
      rw e (param_at-row with_param (length t.params) r (slice_get-push t.params r) ∙ param_of-grows (IsAbove-Grows Grows-param) r i)

module _ (t : Tables) (h : AreRows t) (r : MemberRow) (i : IsMemberIn t r) where
  abbrev with_member : Tables
  with_member = record t { members = t.members ++ r ∷ [] }

  pub Grows-member : Grows t with_member
  Grows-member = record {
    names = Begins-same t.names;
    numbers = Begins-same t.numbers;
    params = Begins-same t.params;
    members = Begins-more t.members (r ∷ []);
    classes = Begins-same t.classes;
    stmts = Begins-same t.stmts;
    exprs = Begins-same t.exprs;
  }

  pub AreRows-member : AreRows with_member
  AreRows-member = let g = Grows-member in record {
    names = h.names;
    exprs = exprs-kept g h;
    stmts = stmts-kept g h;
    params = params-kept g h;
    members = EachRow-push (λ k q. IsMemberIn with_member q) t.members r (members-kept g h) (IsMemberIn-grows (IsAbove-Grows g) r i);
    classes = classes-kept g h;
    body = body-kept g h;
    counted = h.counted;
  }

  pub member_at-push : (n : ℕ) → n ≡ length t.members → member_at with_member n ≡ member_of t r
  member_at-push n e =
      let g = Grows-member in
      rw e (member_at-row with_member (length t.members) r (slice_get-push t.members r)
      ∙ member_of-grows (IsAbove-Grows g) (param_at-grows g h) (stmt_at-grows g h) r i)

module _ (t : Tables) (h : AreRows t) (r : ClassRow) (i : IsClassIn t r) (room : length t.classes < 2 ^ 32 - 1) where
  abbrev with_class : Tables
  with_class = record t { classes = t.classes ++ r ∷ [] }

  pub Grows-class : Grows t with_class
  Grows-class = record {
    names = Begins-same t.names;
    numbers = Begins-same t.numbers;
    params = Begins-same t.params;
    members = Begins-same t.members;
    classes = Begins-more t.classes (r ∷ []);
    stmts = Begins-same t.stmts;
    exprs = Begins-same t.exprs;
  }

  pub AreRows-class : AreRows with_class
  AreRows-class = let g = Grows-class in record {
    names = h.names;
    exprs = exprs-kept g h;
    stmts = stmts-kept g h;
    params = params-kept g h;
    members = members-kept g h;
    classes = EachRow-push (λ k q. IsClassIn with_class q) t.classes r (classes-kept g h) (IsClassIn-grows (IsAbove-Grows g) r i);
    body = body-kept g h;
    counted = omega (arith, length-append t.classes (r ∷ []));
  }

  pub classes_of-push : classes_of with_class ≡ classes_of t ++ class_of t r ∷ []
  unfolding classes_of
  classes_of-push =
      let g = Grows-class in
      let old = map-EachRow (class_of with_class) (class_of t) t.classes
      (λ k q s. class_of-grows (IsAbove-Grows g) (member_at-grows g h) q (h.classes k q s)) in
      let last = class_of-grows (IsAbove-Grows g) (member_at-grows g h) r i in
      map-append (class_of with_class) t.classes (r ∷ []) ∙ ap (λ w. w ++ class_of with_class r ∷ []) old
      ∙ ap (λ w. map (class_of t) t.classes ++ w ∷ []) last

  pub program_of-class : program_of with_class ≡ record (program_of t) { classes = classes_of t ++ class_of t r ∷ [] }
  program_of-class =
      let g = Grows-class in
      let c = classes_of-push in
      let b : block_of with_class t.body ≡ block_of t t.body = block_of-grows (IsAbove-Grows g) (stmt_at-grows g h) t.body h.body in
      cc

module _ (t : Tables) (h : AreRows t) (r : StmtRow) (i : IsStmtIn t (length t.stmts) r) where
  abbrev with_stmt : Tables
  with_stmt = record t { stmts = t.stmts ++ r ∷ [] }

  pub Grows-stmt : Grows t with_stmt
  Grows-stmt = record {
    names = Begins-same t.names;
    numbers = Begins-same t.numbers;
    params = Begins-same t.params;
    members = Begins-same t.members;
    classes = Begins-same t.classes;
    stmts = Begins-more t.stmts (r ∷ []);
    exprs = Begins-same t.exprs;
  }

  pub AreRows-stmt : AreRows with_stmt
  AreRows-stmt = let g = Grows-stmt in record {
    names = h.names;
    exprs = exprs-kept g h;
    stmts = EachRow-push (IsStmtIn with_stmt) t.stmts r (stmts-kept g h) (IsKindIn-grows (IsAbove-Grows g) (length t.stmts) r.kind i);
    params = params-kept g h;
    members = members-kept g h;
    classes = classes-kept g h;
    body = body-kept g h;
    counted = h.counted;
  }

  pub stmt_at-push : (n : ℕ) → n ≡ length t.stmts → stmt_at with_stmt n ≡ stmt_of t r
  stmt_at-push n e =
      let g = Grows-stmt in
      rw e (stmt_at-row with_stmt AreRows-stmt (length t.stmts) r (slice_get-push t.stmts r)
      ∙ stmt_over-grows (IsAbove-Grows g) (expr_at-grows g h) (length t.stmts) (stmt_at with_stmt) (stmt_at t) (stmt_at-grows g h) r i)

module _ (t : Tables) (h : AreRows t) (r : ExprRow) (i : IsExprIn t (length t.exprs) r) where
  abbrev with_expr : Tables
  with_expr = record t { exprs = t.exprs ++ r ∷ [] }

  pub Grows-expr : Grows t with_expr
  Grows-expr = record {
    names = Begins-same t.names;
    numbers = Begins-same t.numbers;
    params = Begins-same t.params;
    members = Begins-same t.members;
    classes = Begins-same t.classes;
    stmts = Begins-same t.stmts;
    exprs = Begins-more t.exprs (r ∷ []);
  }

  pub AreRows-expr : AreRows with_expr
  AreRows-expr = let g = Grows-expr in record {
    names = h.names;
    exprs = EachRow-push (IsExprIn with_expr) t.exprs r (exprs-kept g h) (IsExprIn-grows (IsAbove-Grows g) (length t.exprs) r i);
    stmts = stmts-kept g h;
    params = params-kept g h;
    members = members-kept g h;
    classes = classes-kept g h;
    body = body-kept g h;
    counted = h.counted;
  }

  pub expr_at-push : (n : ℕ) → n ≡ length t.exprs → expr_at with_expr n ≡ expr_of t r
  expr_at-push n e =
      let g = Grows-expr in
      rw e (expr_at-row with_expr AreRows-expr (length t.exprs) r (slice_get-push t.exprs r)
      ∙ expr_over-grows (IsAbove-Grows g) (length t.exprs) r (expr_at with_expr) (expr_at t) i (expr_at-grows g h))

module _ (t : Tables) (h : AreRows t) (manager : Manager) (body : Span) (line : ℕ) (i : IsBlockIn t body) where
  abbrev with_main : Tables
  with_main = record t { manager = manager; body = body; line = line }

  pub Grows-main : Grows t with_main
  Grows-main = record {
    names = Begins-same t.names;
    numbers = Begins-same t.numbers;
    params = Begins-same t.params;
    members = Begins-same t.members;
    classes = Begins-same t.classes;
    stmts = Begins-same t.stmts;
    exprs = Begins-same t.exprs;
  }

  pub AreRows-main : AreRows with_main
  AreRows-main = let g = Grows-main in record {
    names = h.names;
    exprs = exprs-kept g h;
    stmts = stmts-kept g h;
    params = params-kept g h;
    members = members-kept g h;
    classes = classes-kept g h;
    body = IsBlockIn-grows (IsAbove-Grows g) body i;
    counted = h.counted;
  }

  pub program_of-main : program_of with_main ≡ record (program_of t) { manager = manager; body = block_of t body; line = line }
  program_of-main =
      let g = Grows-main in
      let c : classes_of with_main ≡ classes_of t = Begins-whole (classes_of-grows g h) (length-classes_of t ∙ sym (length-classes_of with_main)) in
      let b : block_of with_main body ≡ block_of t body = block_of-grows (IsAbove-Grows g) (stmt_at-grows g h) body i in
      cc
