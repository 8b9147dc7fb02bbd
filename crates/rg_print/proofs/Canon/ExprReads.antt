-- The lexemes of an expression are read as that expression, at each level at which they stand.
use Rattle.std.proofs.Common.{◌≡◌, ℕ, ◌+◌, ◌≤◌, max, nat_lt, Bool, true, false, List, [], ◌∷◌, length, Option, Some, None, Ok, refl, subst, arith}
use Rattle.std.proofs.lemmas.Bool.Decides.{nat_tests}
use Rattle.std.specs.Fmt.{signed_decimal}
use Rattle.rg_base.specs.declared.words.Keyword.TheVariants as w
use Rattle.rg_base.specs.declared.words.Sign.{Sign}
use Rattle.rg_base.specs.declared.words.Sign.TheVariants as s
use Rattle.rg_base.specs.declared.token.Kind.{Kind}
use Rattle.rg_base.specs.declared.token.Kind.TheVariants as k
use Rattle.rg_base.specs.declared.token.Token.{Token}
use Rattle.rg_tree.specs.declared.rows.BinOp.{BinOp}
use Rattle.rg_tree.specs.declared.rows.BinOp.TheVariants.{Or, And, Eq, Ne, Lt, Le, Gt, Ge, Add, Sub, Mul, Div, Rem}
use Rattle.rg_tree.specs.declared.counts.Counts.{Counts}
use Rattle.rg_tree.specs.Tree.{Variable, Path, Expr, number, boolean, nil, path, is_nil, neg, not, binary, size, element}
use Rattle.rg_tree.specs.Canonical.{level}
use Rattle.rg_tree.specs.Counts.{opened, one_sign}
use Rattle.rg_tree.specs.Phrases.{the}
use Rattle.rg_tree.specs.Phrases as p
use Rattle.rg_tree.specs.Table.{row}
use Rattle.rg_tree.specs.Operators.{comparison_of, sum_of, product_of}
use Rattle.rg_tree.specs.Forms as form
use Rattle.rg_tree.specs.Forms.{Form, Given}
use Rattle.rg_tree.specs.Grammar.{Reads, expr_row, or_row, no_or, and_row, and_further, no_and, not_row, no_not, cmp_row, compared, not_compared}
use Rattle.rg_tree.specs.Grammar.{sum_row, sum_further, no_sum, mul_row, mul_further, no_mul, minus, no_minus, literal, parens, path_value, is_row}
use Rattle.rg_tree.specs.Grammar.{no_is, size_row, element_of}
use Rattle.rg_print.proofs.Canon.Lexemes.{Lexeme, word, mark, sign_text, space, base_lexeme, dotted, enclosed, expr_lexemes}
use Rattle.rg_print.proofs.Canon.LexemeCuts.{tokens_at}
use Rattle.rg_print.proofs.Canon.Readings.{first_kind, next-tokens_at, Ends7, Ends5, Ends4, Ends3, Ends1, Ends0, ends-all, with_signs, signs, one_if}
use Rattle.rg_print.proofs.Canon.Readings.{depth, Spends, one_sign-allowed, deeper, opened-allowed, closed-deeper, Spelt, Read, path-read}

module _ (S : List ℕ) where
  -- Levels. A chain is read with what goes on behind it.

  abbrev pub AsPrimary : (List Lexeme → List Lexeme) → Expr → ℕ → Type 0
  AsPrimary X e n = (c : Counts) (i j from line : ℕ) (rest : List Lexeme) → Spends c n i j e → Ends7 (first_kind rest) → Spelt S from (X rest)
      → Read S form.Primary (with_signs c i) (tokens_at from line (X rest)) e (with_signs c j) rest

  abbrev pub AsUnary : (List Lexeme → List Lexeme) → Expr → ℕ → Type 0
  AsUnary X e n = (c : Counts) (i j from line : ℕ) (rest : List Lexeme) → Spends c n i j e → Ends7 (first_kind rest) → Spelt S from (X rest)
      → Read S form.Unary (with_signs c i) (tokens_at from line (X rest)) e (with_signs c j) rest

  abbrev pub AsMul : (List Lexeme → List Lexeme) → Expr → ℕ → Type 0
  AsMul X e n = (c : Counts) (i j from line : ℕ) (rest : List Lexeme) (x : Expr) (g : Counts) (more : List Lexeme)
      → Spends c n i j e → Ends7 (first_kind rest) → Spelt S from (X rest)
      → ((f l : ℕ) → Spelt S f rest → Read S (form.MulRest e) (with_signs c j) (tokens_at f l rest) x g more)
      → Read S form.Mul (with_signs c i) (tokens_at from line (X rest)) x g more

  abbrev pub WholeMul : (List Lexeme → List Lexeme) → Expr → ℕ → Type 0
  WholeMul X e n = (c : Counts) (i j from line : ℕ) (rest : List Lexeme) → Spends c n i j e → Ends5 (first_kind rest) → Spelt S from (X rest)
      → Read S form.Mul (with_signs c i) (tokens_at from line (X rest)) e (with_signs c j) rest

  abbrev pub AsSum : (List Lexeme → List Lexeme) → Expr → ℕ → Type 0
  AsSum X e n = (c : Counts) (i j from line : ℕ) (rest : List Lexeme) (x : Expr) (g : Counts) (more : List Lexeme)
      → Spends c n i j e → Ends5 (first_kind rest) → Spelt S from (X rest)
      → ((f l : ℕ) → Spelt S f rest → Read S (form.SumRest e) (with_signs c j) (tokens_at f l rest) x g more)
      → Read S form.Sum (with_signs c i) (tokens_at from line (X rest)) x g more

  abbrev pub WholeSum : (List Lexeme → List Lexeme) → Expr → ℕ → Type 0
  WholeSum X e n = (c : Counts) (i j from line : ℕ) (rest : List Lexeme) → Spends c n i j e → Ends4 (first_kind rest) → Spelt S from (X rest)
      → Read S form.Sum (with_signs c i) (tokens_at from line (X rest)) e (with_signs c j) rest

  abbrev pub AsCmp : (List Lexeme → List Lexeme) → Expr → ℕ → Type 0
  AsCmp X e n = (c : Counts) (i j from line : ℕ) (rest : List Lexeme) → Spends c n i j e → Ends3 (first_kind rest) → Spelt S from (X rest)
      → Read S form.Cmp (with_signs c i) (tokens_at from line (X rest)) e (with_signs c j) rest

  abbrev pub AsNot : (List Lexeme → List Lexeme) → Expr → ℕ → Type 0
  AsNot X e n = (c : Counts) (i j from line : ℕ) (rest : List Lexeme) → Spends c n i j e → Ends3 (first_kind rest) → Spelt S from (X rest)
      → Read S form.Not (with_signs c i) (tokens_at from line (X rest)) e (with_signs c j) rest

  abbrev pub AsAnd : (List Lexeme → List Lexeme) → Expr → ℕ → Type 0
  AsAnd X e n = (c : Counts) (i j from line : ℕ) (rest : List Lexeme) (x : Expr) (g : Counts) (more : List Lexeme)
      → Spends c n i j e → Ends3 (first_kind rest) → Spelt S from (X rest)
      → ((f l : ℕ) → Spelt S f rest → Read S (form.AndRest e) (with_signs c j) (tokens_at f l rest) x g more)
      → Read S form.And (with_signs c i) (tokens_at from line (X rest)) x g more

  abbrev pub WholeAnd : (List Lexeme → List Lexeme) → Expr → ℕ → Type 0
  WholeAnd X e n = (c : Counts) (i j from line : ℕ) (rest : List Lexeme) → Spends c n i j e → Ends1 (first_kind rest) → Spelt S from (X rest)
      → Read S form.And (with_signs c i) (tokens_at from line (X rest)) e (with_signs c j) rest

  abbrev pub AsExpr : (List Lexeme → List Lexeme) → Expr → ℕ → Type 0
  AsExpr X e n = (c : Counts) (i j from line : ℕ) (rest : List Lexeme) (x : Expr) (g : Counts) (more : List Lexeme)
      → Spends c n i j e → Ends1 (first_kind rest) → Spelt S from (X rest)
      → ((f l : ℕ) → Spelt S f rest → Read S (form.OrRest e) (with_signs c j) (tokens_at f l rest) x g more)
      → Read S form.Expr (with_signs c i) (tokens_at from line (X rest)) x g more

  abbrev pub WholeExpr : (List Lexeme → List Lexeme) → Expr → ℕ → Type 0
  WholeExpr X e n = (c : Counts) (i j from line : ℕ) (rest : List Lexeme) → Spends c n i j e → Ends0 (first_kind rest) → Spelt S from (X rest)
      → Read S form.Expr (with_signs c i) (tokens_at from line (X rest)) e (with_signs c j) rest

  module _ (X : List Lexeme → List Lexeme) (e : Expr) (n : ℕ) where
    -- the first token isn't a minus, and isn't not
    abbrev pub NoMinus : Type 0
    NoMinus = (rest : List Lexeme) → row p.Unary (first_kind (X rest)) ≡ Some (the p.Primary ∷ [])

    abbrev pub NoNot : Type 0
    NoNot = (rest : List Lexeme) → row p.Not (first_kind (X rest)) ≡ Some (the p.Cmp ∷ [])

    -- From each level to the next less tight one; a whole phrase is one on which nothing goes on.

    primary-to-unary : NoMinus → AsPrimary X e n → AsUnary X e n
    primary-to-unary m h c i j from line rest v f sp =
        let r = h c i j from line rest v f sp in
        record { from = r.from; line = r.line; spelt = r.spelt; reads = no_minus (rw (next-tokens_at from line (X rest)) (m rest)) r.reads }

    unary-to-mul : AsUnary X e n → AsMul X e n
    unary-to-mul h c i j from line rest x g more v f sp go =
        let r = h c i j from line rest v f sp in
        let q = go r.from r.line r.spelt in
        record { from = q.from; line = q.line; spelt = q.spelt; reads = mul_row r.reads q.reads }

    mul-whole : AsMul X e n → WholeMul X e n
    mul-whole h c i j from line rest v f sp = h c i j from line rest e (with_signs c j) rest v f.below sp (λ g l y. record {
      from = g;
      line = l;
      spelt = y;
      reads = no_mul (rw (next-tokens_at g l rest) f.here);
    })

    mul-to-sum : AsMul X e n → AsSum X e n
    mul-to-sum h c i j from line rest x g more v f sp go =
        let r = mul-whole h c i j from line rest v f sp in
        let q = go r.from r.line r.spelt in
        record { from = q.from; line = q.line; spelt = q.spelt; reads = sum_row r.reads q.reads }

    sum-whole : AsSum X e n → WholeSum X e n
    sum-whole h c i j from line rest v f sp = h c i j from line rest e (with_signs c j) rest v f.below sp (λ g l y. record {
      from = g;
      line = l;
      spelt = y;
      reads = no_sum (rw (next-tokens_at g l rest) f.here);
    })

    sum-to-cmp : AsSum X e n → AsCmp X e n
    sum-to-cmp h c i j from line rest v f sp =
        let r = sum-whole h c i j from line rest v f.below sp in
        record {
          from = r.from;
          line = r.line;
          spelt = r.spelt;
          reads = cmp_row r.reads (not_compared (rw (next-tokens_at r.from r.line rest) f.here));
        }

    cmp-to-not : NoNot → AsCmp X e n → AsNot X e n
    cmp-to-not m h c i j from line rest v f sp =
        let r = h c i j from line rest v f sp in
        record { from = r.from; line = r.line; spelt = r.spelt; reads = no_not (rw (next-tokens_at from line (X rest)) (m rest)) r.reads }

    not-to-and : AsNot X e n → AsAnd X e n
    not-to-and h c i j from line rest x g more v f sp go =
        let r = h c i j from line rest v f sp in
        let q = go r.from r.line r.spelt in
        record { from = q.from; line = q.line; spelt = q.spelt; reads = and_row r.reads q.reads }

    and-whole : AsAnd X e n → WholeAnd X e n
    and-whole h c i j from line rest v f sp = h c i j from line rest e (with_signs c j) rest v f.below sp (λ g l y. record {
      from = g;
      line = l;
      spelt = y;
      reads = no_and (rw (next-tokens_at g l rest) f.here);
    })

    and-to-expr : AsAnd X e n → AsExpr X e n
    and-to-expr h c i j from line rest x g more v f sp go =
        let r = and-whole h c i j from line rest v f sp in
        let q = go r.from r.line r.spelt in
        record { from = q.from; line = q.line; spelt = q.spelt; reads = expr_row r.reads q.reads }

    pub expr-whole : AsExpr X e n → WholeExpr X e n
    expr-whole h c i j from line rest v f sp = h c i j from line rest e (with_signs c j) rest v f.below sp (λ g l y. record {
      from = g;
      line = l;
      spelt = y;
      reads = no_or (rw (next-tokens_at g l rest) f.here);
    })

    -- in parentheses
    enclosed-primary : AsExpr X e n → AsPrimary (enclosed true X) e (n + 1)
    enclosed-primary h c i j from line rest v f sp =
        let inner : Ends0 (Some (k.Mark s.CloseParen)) = ends-all refl refl refl refl refl refl refl in
        let room : c.brackets + (n + 1) ≤ 64 = v.room (omega arith) in
        let r = expr-whole h (deeper c) i j (from + 1) line (mark s.CloseParen ∷ rest) (record {
          room = λ l. omega arith;
          sum = v.sum;
          few = v.few;
        }) inner sp in
        let o : opened (with_signs c i) ≡ Ok (with_signs (deeper c) i) = opened-allowed (with_signs c i) (omega arith) in
        record {
          from = r.from + 1;
          line = r.line;
          spelt = r.spelt;
          reads = subst (λ d. Reads S form.Primary (with_signs c i) (tokens_at from line (enclosed true X rest)) e d (tokens_at
              (r.from + 1) r.line rest))
              (closed-deeper (with_signs c j)) (parens refl o r.reads refl);
        }

  -- what may begin an expression
  pub record Begins (o : Option Kind) : Type 0 where
    pub right : row p.Right o ≡ Some (the p.Expr ∷ [])
    pub args : row p.Args o ≡ Some (the p.Expr ∷ the p.MoreArgs ∷ [])

  -- an expression of a level, at each level: in parentheses above its own
  pub record At (own : ℕ) (X : List Lexeme → List Lexeme) (e : Expr) (n : ℕ) : Type 0 where
    pub begins : (rest : List Lexeme) → Begins (first_kind (X rest))
    pub starts : 3 ≤ own → NoNot X e n
    pub bare : AsExpr X e n
    pub as_expr : AsExpr (enclosed (nat_lt own 0) X) e (one_if (nat_lt own 0) n)
    pub as_and : AsAnd (enclosed (nat_lt own 1) X) e (one_if (nat_lt own 1) n)
    pub as_not : AsNot (enclosed (nat_lt own 2) X) e (one_if (nat_lt own 2) n)
    pub as_cmp : AsCmp (enclosed (nat_lt own 3) X) e (one_if (nat_lt own 3) n)
    pub as_sum : AsSum (enclosed (nat_lt own 4) X) e (one_if (nat_lt own 4) n)
    pub as_mul : AsMul (enclosed (nat_lt own 5) X) e (one_if (nat_lt own 5) n)
    pub as_unary : AsUnary (enclosed (nat_lt own 6) X) e (one_if (nat_lt own 6) n)
    pub as_primary : AsPrimary (enclosed (nat_lt own 7) X) e (one_if (nat_lt own 7) n)

  module _ (X : List Lexeme → List Lexeme) (e : Expr) (n : ℕ) (b : (rest : List Lexeme) → Begins (first_kind (X rest))) where
    -- in parentheses at each level
    record Enclosed : Type 0 where
      and : AsAnd (enclosed true X) e (n + 1)
      not' : AsNot (enclosed true X) e (n + 1)
      cmp : AsCmp (enclosed true X) e (n + 1)
      sum : AsSum (enclosed true X) e (n + 1)
      mul : AsMul (enclosed true X) e (n + 1)
      unary : AsUnary (enclosed true X) e (n + 1)
      primary : AsPrimary (enclosed true X) e (n + 1)

    enclose : AsExpr X e n → Enclosed
    enclose h =
        let p = enclosed-primary X e n h in
        let u = primary-to-unary (enclosed true X) e (n + 1) (λ rest. refl) p in
        let m = unary-to-mul (enclosed true X) e (n + 1) u in
        let a = mul-to-sum (enclosed true X) e (n + 1) m in
        let c = sum-to-cmp (enclosed true X) e (n + 1) a in
        let o = cmp-to-not (enclosed true X) e (n + 1) (λ rest. refl) c in
        record { and = not-to-and (enclosed true X) e (n + 1) o; not' = o; cmp = c; sum = a; mul = m; unary = u; primary = p }

    -- bare up to its own level
    at0 : AsExpr X e n → At 0 X e n
    at0 h =
        let w = enclose h in
        record {
          begins = b;
          starts = λ l. absurd (omega arith);
          bare = h;
          as_expr = h;
          as_and = w.and;
          as_not = w.not';
          as_cmp = w.cmp;
          as_sum = w.sum;
          as_mul = w.mul;
          as_unary = w.unary;
          as_primary = w.primary;
        }

    at1 : AsAnd X e n → At 1 X e n
    at1 h = let t = at0 (and-to-expr X e n h) in record {
      begins = b;
      starts = λ l. absurd (omega arith);
      bare = t.bare;
      as_expr = t.as_expr;
      as_and = h;
      as_not = t.as_not;
      as_cmp = t.as_cmp;
      as_sum = t.as_sum;
      as_mul = t.as_mul;
      as_unary = t.as_unary;
      as_primary = t.as_primary;
    }

    at2 : AsNot X e n → At 2 X e n
    at2 h = let t = at1 (not-to-and X e n h) in record {
      begins = b;
      starts = λ l. absurd (omega arith);
      bare = t.bare;
      as_expr = t.as_expr;
      as_and = t.as_and;
      as_not = h;
      as_cmp = t.as_cmp;
      as_sum = t.as_sum;
      as_mul = t.as_mul;
      as_unary = t.as_unary;
      as_primary = t.as_primary;
    }

    module _ (m : NoNot X e n) where
      at3 : AsCmp X e n → At 3 X e n
      at3 h = let t = at2 (cmp-to-not X e n m h) in record {
        begins = b;
        starts = λ l. m;
        bare = t.bare;
        as_expr = t.as_expr;
        as_and = t.as_and;
        as_not = t.as_not;
        as_cmp = h;
        as_sum = t.as_sum;
        as_mul = t.as_mul;
        as_unary = t.as_unary;
        as_primary = t.as_primary;
      }

      at4 : AsSum X e n → At 4 X e n
      at4 h = let t = at3 (sum-to-cmp X e n h) in record {
        begins = b;
        starts = λ l. m;
        bare = t.bare;
        as_expr = t.as_expr;
        as_and = t.as_and;
        as_not = t.as_not;
        as_cmp = t.as_cmp;
        as_sum = h;
        as_mul = t.as_mul;
        as_unary = t.as_unary;
        as_primary = t.as_primary;
      }

      at5 : AsMul X e n → At 5 X e n
      at5 h = let t = at4 (mul-to-sum X e n h) in record {
        begins = b;
        starts = λ l. m;
        bare = t.bare;
        as_expr = t.as_expr;
        as_and = t.as_and;
        as_not = t.as_not;
        as_cmp = t.as_cmp;
        as_sum = t.as_sum;
        as_mul = h;
        as_unary = t.as_unary;
        as_primary = t.as_primary;
      }

      at6 : AsUnary X e n → At 6 X e n
      at6 h = let t = at5 (unary-to-mul X e n h) in record {
        begins = b;
        starts = λ l. m;
        bare = t.bare;
        as_expr = t.as_expr;
        as_and = t.as_and;
        as_not = t.as_not;
        as_cmp = t.as_cmp;
        as_sum = t.as_sum;
        as_mul = t.as_mul;
        as_unary = h;
        as_primary = t.as_primary;
      }

      at7 : NoMinus X e n → AsPrimary X e n → At 7 X e n
      at7 u h = let t = at6 (primary-to-unary X e n u h) in record {
        begins = b;
        starts = λ l. m;
        bare = t.bare;
        as_expr = t.as_expr;
        as_and = t.as_and;
        as_not = t.as_not;
        as_cmp = t.as_cmp;
        as_sum = t.as_sum;
        as_mul = t.as_mul;
        as_unary = t.as_unary;
        as_primary = h;
      }

  -- Operators of two operands.

  module _ (A B : List Lexeme → List Lexeme) (a b : Expr) (n m : ℕ) where
    -- what the operands spend of it all
    spends-left : {c : Counts} {i j : ℕ} (op : BinOp) → Spends c (max n m) i j (binary op a b) → Spends c n i (i + signs a) a
    spends-left op v = let r = v.room in let q = v.sum in let f = v.few in record { room = λ l. omega arith; sum = refl; few = λ l. omega arith }

    spends-right : {c : Counts} {i j : ℕ} (op : BinOp) → Spends c (max n m) i j (binary op a b) → Spends c m (i + signs a + 1) j b
    spends-right op v = let r = v.room in let q = v.sum in let f = v.few in record {
      room = λ l. omega arith;
      sum = omega arith;
      few = λ l. omega arith;
    }

    one-allowed : {c : Counts} {i j : ℕ} (op : BinOp) → Spends c (max n m) i j (binary op a b)
        → one_sign (with_signs c (i + signs a)) ≡ Ok (with_signs c (i + signs a + 1))
    one-allowed {c} {i} {j} op v = let q = v.sum in let f = v.few in one_sign-allowed c (i + signs a) (omega arith)

    module _ (op : BinOp) (x : Sign) where
      -- the lexemes with a sign between
      abbrev between : List Lexeme → List Lexeme
      between rest = A (space ∷ mark x ∷ space ∷ B rest)

      product : product_of (k.Mark x) ≡ Some op → Ends7 (Some (k.Mark x)) → AsMul A a n → AsUnary B b m → AsMul between (binary op a b) (max n m)
      product o e g h c i j from line rest y d more v f sp go =
          g c i (i + signs a) from line (space ∷ mark x ∷ space ∷ B rest) y d more (spends-left op v) e sp (λ u l z.
          let r = h c (i + signs a + 1) j (u + 1 + length (sign_text x) + 1) l rest (spends-right op v) f z in
          let q = go r.from r.line r.spelt in
          record { from = q.from; line = q.line; spelt = q.spelt; reads = mul_further o (one-allowed op v) r.reads q.reads })

      sum : sum_of (k.Mark x) ≡ Some op → Ends5 (Some (k.Mark x)) → AsSum A a n → AsMul B b m → AsSum between (binary op a b) (max n m)
      sum o e g h c i j from line rest y d more v f sp go =
          g c i (i + signs a) from line (space ∷ mark x ∷ space ∷ B rest) y d more (spends-left op v) e sp (λ u l z.
          let r = mul-whole B b m h c (i + signs a + 1) j (u + 1 + length (sign_text x) + 1) l rest (spends-right op v) f z in
          let q = go r.from r.line r.spelt in
          record { from = q.from; line = q.line; spelt = q.spelt; reads = sum_further o (one-allowed op v) r.reads q.reads })

      comparison : comparison_of (k.Mark x) ≡ Some op → Ends4 (Some (k.Mark x)) → AsSum A a n → AsSum B b m → AsCmp between (binary op a b) (max n m)
      comparison o e g h c i j from line rest v f sp =
          let q = sum-whole A a n g c i (i + signs a) from line (space ∷ mark x ∷ space ∷ B rest) (spends-left op v) e sp in
          let r = sum-whole B b m h c (i + signs a + 1) j (q.from + 1 + length (sign_text x) + 1) q.line rest (spends-right op v) f.below q.spelt in
          record { from = r.from; line = r.line; spelt = r.spelt; reads = cmp_row q.reads (compared o (one-allowed op v) r.reads) }

    conjunction : AsAnd A a n → AsNot B b m → AsAnd (λ rest. A (space ∷ word w.And ∷ space ∷ B rest)) (binary And a b) (max n m)
    conjunction g h c i j from line rest y d more v f sp go =
        let e : Ends3 (Some (k.Word w.And)) = record {
          below = record {
            below = record {
              below = record { is = refl; fields = refl };
              here = refl;
            };
            here = refl;
          };
          here = refl;
        } in
        g c i (i + signs a) from line (space ∷ word w.And ∷ space ∷ B rest) y d more (spends-left And v) e sp (λ u l z.
        let r = h c (i + signs a + 1) j (u + 1 + 3 + 1) l rest (spends-right And v) f z in
        let q = go r.from r.line r.spelt in
        record { from = q.from; line = q.line; spelt = q.spelt; reads = and_further refl (one-allowed And v) r.reads q.reads })

    disjunction : AsExpr A a n → AsAnd B b m → AsExpr (λ rest. A (space ∷ word w.Or ∷ space ∷ B rest)) (binary Or a b) (max n m)
    disjunction g h c i j from line rest y d more v f sp go =
        let e : Ends1 (Some (k.Word w.Or)) = record {
          below = record {
            below = record {
              below = record {
                below = record {
                  is = refl;
                  fields = refl;
                };
                here = refl;
              };
              here = refl;
            };
            here = refl;
          };
          here = refl;
        } in
        g c i (i + signs a) from line (space ∷ word w.Or ∷ space ∷ B rest) y d more (spends-left Or v) e sp (λ u l z.
        let r = and-whole B b m h c (i + signs a + 1) j (u + 1 + 2 + 1) l rest (spends-right Or v) f z in
        let q = go r.from r.line r.spelt in
        record { from = q.from; line = q.line; spelt = q.spelt; reads = or_row refl (one-allowed Or v) r.reads q.reads })

  -- What begins an operand.

  enclosed-begins : (v : Bool) (X : List Lexeme → List Lexeme) → ((rest : List Lexeme) → Begins (first_kind (X rest)))
      → (rest : List Lexeme) → Begins (first_kind (enclosed v X rest))
  enclosed-begins true X h rest = record { right = refl; args = refl }
  enclosed-begins false X h rest = h rest

  enclosed-starts : (v : Bool) (own least : ℕ) (X : List Lexeme → List Lexeme) → nat_lt own least ≡ v → 3 ≤ least
      → (3 ≤ own → (rest : List Lexeme) → row p.Not (first_kind (X rest)) ≡ Some (the p.Cmp ∷ []))
      → (rest : List Lexeme) → row p.Not (first_kind (enclosed v X rest)) ≡ Some (the p.Cmp ∷ [])
  enclosed-starts true own least X t l h rest = refl
  enclosed-starts false own least X t l h rest = h (grind (arith, nat_tests)) rest

  -- Single tokens and paths.

  unchanged : {f : Form} (c : Counts) {i j : ℕ} {ts : List Token} {a : Given f} {rest : List Lexeme} → j ≡ i + 0
      → Read S f (with_signs c i) ts a (with_signs c i) rest → Read S f (with_signs c i) ts a (with_signs c j) rest
  unchanged {f} c {i} {j} {ts} {a} {rest} e r =
      let q : i ≡ j = omega arith in subst (λ x. Read S f (with_signs c i) ts a (with_signs c x) rest) q r

  -- what begins a path
  record BaseBegins (o : Option Kind) : Type 0 where
    begins : Begins o
    starts : row p.Not o ≡ Some (the p.Cmp ∷ [])
    plus : row p.Unary o ≡ Some (the p.Primary ∷ [])

  base-begins : (b : Variable) (xs : List Lexeme) → BaseBegins (first_kind (base_lexeme b ∷ xs))
  base-begins None xs = record { begins = record { right = refl; args = refl }; starts = refl; plus = refl }
  base-begins (Some x) xs = record { begins = record { right = refl; args = refl }; starts = refl; plus = refl }

  boolean-read : (b : Bool) → AsPrimary (expr_lexemes (boolean b)) (boolean b) 0
  boolean-read true c i j from line rest v f sp =
      unchanged c v.sum (record { from = from + 4; line = line; spelt = sp; reads = literal refl })
  boolean-read false c i j from line rest v f sp =
      unchanged c v.sum (record { from = from + 5; line = line; spelt = sp; reads = literal refl })

  boolean-begins : (b : Bool) (rest : List Lexeme) → BaseBegins (first_kind (expr_lexemes (boolean b) rest))
  boolean-begins true rest = record { begins = record { right = refl; args = refl }; starts = refl; plus = refl }
  boolean-begins false rest = record { begins = record { right = refl; args = refl }; starts = refl; plus = refl }

  path-primary : (q : Path) → AsPrimary (expr_lexemes (path q)) (path q) 0
  path-primary q c i j from line rest v f sp =
      let r = path-read S (with_signs c i) q.base q.fields from line rest f.fields sp in
      unchanged c v.sum (record {
        from = r.from;
        line = r.line;
        spelt = r.spelt;
        reads = path_value r.reads (no_is (rw (next-tokens_at r.from r.line rest) f.is));
      })

  is_nil-primary : (q : Path) → AsPrimary (expr_lexemes (is_nil q)) (is_nil q) 0
  is_nil-primary q c i j from line rest v f sp =
      let r = path-read S (with_signs c i) q.base q.fields from line (space ∷ word w.Is ∷ space ∷ word w.Nil ∷ rest) refl sp in
      unchanged c v.sum (record {
        from = r.from + 1 + 2 + 1 + 3;
        line = r.line;
        spelt = r.spelt;
        reads = path_value r.reads (is_row refl refl);
      })

  size-primary : (q : Path) → AsPrimary (expr_lexemes (size q)) (size q) 0
  size-primary q c i j from line rest v f sp =
      let r = path-read S (with_signs c i) q.base q.fields (from + 4 + 1) line rest f.fields sp in
      unchanged c v.sum (record { from = r.from; line = r.line; spelt = r.spelt; reads = size_row refl r.reads })

  element-primary : (q : Path) (e : Expr) (n : ℕ) → AsExpr (expr_lexemes e) e n → AsPrimary (expr_lexemes (element q e)) (element q e) (n + 1)
  element-primary q e n h c i j from line rest v f sp =
      let inner : Ends0 (Some (k.Mark s.CloseBracket)) = ends-all refl refl refl refl refl refl refl in
      let room : c.brackets + (n + 1) ≤ 64 = v.room (omega arith) in
      let p = path-read S (with_signs c i) q.base q.fields from line
      (mark s.OpenBracket ∷ expr_lexemes e (mark s.CloseBracket ∷ rest)) refl sp in
      let r = expr-whole (expr_lexemes e) e n h (deeper c) i j (p.from + 1) p.line (mark s.CloseBracket ∷ rest) (record {
        room = λ l. omega arith;
        sum = v.sum;
        few = v.few;
      }) inner p.spelt in
      let o : opened (with_signs c i) ≡ Ok (with_signs (deeper c) i) = opened-allowed (with_signs c i) (omega arith) in
      record {
        from = r.from + 1;
        line = r.line;
        spelt = r.spelt;
        reads = subst (λ d. Reads S form.Primary (with_signs c i) (tokens_at from line (expr_lexemes (element q e) rest)) (element q e) d
            (tokens_at (r.from + 1) r.line rest))
            (closed-deeper (with_signs c j)) (path_value p.reads (element_of refl o r.reads refl));
      }

  -- The levels of each expression.

  -- what a sign of two operands ends
  ends7 : {o : Option Kind} → row p.Is o ≡ Some [] → row p.Fields o ≡ Some [] → Ends7 o
  ends7 a b = record { is = a; fields = b }

  ends5 : {o : Option Kind} → row p.Is o ≡ Some [] → row p.Fields o ≡ Some [] → row p.MulRest o ≡ Some [] → Ends5 o
  ends5 a b c = record { below = ends7 a b; here = c }

  ends4 : {o : Option Kind} → row p.Is o ≡ Some [] → row p.Fields o ≡ Some [] → row p.MulRest o ≡ Some [] → row p.SumRest o ≡ Some [] → Ends4 o
  ends4 a b c d = record { below = ends5 a b c; here = d }

  -- an expression at its level
  abbrev pub Stands : Expr → Type 0
  Stands e = At (level e) (expr_lexemes e) e (depth e)

  module _ (a b : Expr) (f : Stands a) (g : Stands b) where
    -- the left operand where this is the least level that stands bare
    abbrev left : ℕ → List Lexeme → List Lexeme
    left least = enclosed (nat_lt (level a) least) (expr_lexemes a)

    abbrev right : ℕ → List Lexeme → List Lexeme
    right least = enclosed (nat_lt (level b) least) (expr_lexemes b)

    abbrev left_depth : ℕ → ℕ
    left_depth least = one_if (nat_lt (level a) least) (depth a)

    abbrev right_depth : ℕ → ℕ
    right_depth least = one_if (nat_lt (level b) least) (depth b)

    left-begins : (least : ℕ) (xs : List Lexeme) → Begins (first_kind (left least xs))
    left-begins least = enclosed-begins (nat_lt (level a) least) (expr_lexemes a) f.begins

    left-starts : (least : ℕ) → 3 ≤ least → (xs : List Lexeme) → row p.Not (first_kind (left least xs)) ≡ Some (the p.Cmp ∷ [])
    left-starts least l = enclosed-starts (nat_lt (level a) least) (level a) least (expr_lexemes a) refl l f.starts

    product-stands : (op : BinOp) (x : Sign) → product_of (k.Mark x) ≡ Some op → Ends7 (Some (k.Mark x))
        → At 5 (between (left 5) (right 6) a b (left_depth 5) (right_depth 6) op x) (binary op a b) (max (left_depth 5) (right_depth 6))
    product-stands op x o e = at5 (between (left 5) (right 6) a b (left_depth 5) (right_depth 6) op x) (binary op a b) (max (left_depth 5)
        (right_depth 6))
        (λ rest. left-begins 5 _) (λ rest. left-starts 5 (omega arith) _)
        (product (left 5) (right 6) a b (left_depth 5) (right_depth 6) op x o e f.as_mul g.as_unary)

    sum-stands : (op : BinOp) (x : Sign) → sum_of (k.Mark x) ≡ Some op → Ends5 (Some (k.Mark x))
        → At 4 (between (left 4) (right 5) a b (left_depth 4) (right_depth 5) op x) (binary op a b) (max (left_depth 4) (right_depth 5))
    sum-stands op x o e = at4 (between (left 4) (right 5) a b (left_depth 4) (right_depth 5) op x) (binary op a b) (max (left_depth 4)
        (right_depth 5))
        (λ rest. left-begins 4 _) (λ rest. left-starts 4 (omega arith) _)
        (sum (left 4) (right 5) a b (left_depth 4) (right_depth 5) op x o e f.as_sum g.as_mul)

    comparison-stands : (op : BinOp) (x : Sign) → comparison_of (k.Mark x) ≡ Some op → Ends4 (Some (k.Mark x))
        → At 3 (between (left 4) (right 4) a b (left_depth 4) (right_depth 4) op x) (binary op a b) (max (left_depth 4) (right_depth 4))
    comparison-stands op x o e = at3 (between (left 4) (right 4) a b (left_depth 4) (right_depth 4) op x) (binary op a b) (max (left_depth 4)
        (right_depth 4))
        (λ rest. left-begins 4 _) (λ rest. left-starts 4 (omega arith) _)
        (comparison (left 4) (right 4) a b (left_depth 4) (right_depth 4) op x o e f.as_sum g.as_sum)

  -- an expression stands so at each level
  pub stands : (e : Expr) → Stands e
  stands (number z) = at7 (expr_lexemes (number z)) (number z) 0 (λ rest. record { right = refl; args = refl }) (λ rest. refl) (λ rest. refl)
      (λ c i j from line rest v f sp. unchanged c v.sum (record {
        from = from + length (signed_decimal z);
        line = line;
        spelt = sp;
        reads = literal refl;
      }))
  stands (boolean b) = at7 (expr_lexemes (boolean b)) (boolean b) 0 (λ rest. (boolean-begins b rest).begins) (λ rest. (boolean-begins b rest).starts)
      (λ rest. (boolean-begins b rest).plus) (boolean-read b)
  stands nil = at7 (expr_lexemes nil) nil 0 (λ rest. record { right = refl; args = refl }) (λ rest. refl) (λ rest. refl)
      (λ c i j from line rest v f sp. unchanged c v.sum (record { from = from + 3; line = line; spelt = sp; reads = literal refl }))
  stands (path q) = at7 (expr_lexemes (path q)) (path q) 0 (λ rest. (base-begins q.base (dotted q.fields rest)).begins)
      (λ rest. (base-begins q.base (dotted q.fields rest)).starts) (λ rest. (base-begins q.base (dotted q.fields rest)).plus) (path-primary q)
  stands (is_nil q) = at7 (expr_lexemes (is_nil q)) (is_nil q) 0 (λ rest. (base-begins q.base _).begins)
      (λ rest. (base-begins q.base _).starts) (λ rest. (base-begins q.base _).plus) (is_nil-primary q)
  stands (neg a) =
      let g = stands a in
      at6 (expr_lexemes (neg a)) (neg a) (depth (neg a)) (λ rest. record { right = refl; args = refl }) (λ rest. refl)
      (λ c i j from line rest v f sp.
      let r = g.as_primary c i j (from + 1) line rest (record { room = v.room; sum = v.sum; few = v.few }) f sp in
      record { from = r.from; line = r.line; spelt = r.spelt; reads = minus refl r.reads })
  stands (not a) =
      let g = stands a in
      at2 (expr_lexemes (not a)) (not a) (depth (not a)) (λ rest. record { right = refl; args = refl })
      (λ c i j from line rest v f sp.
      let r = g.as_cmp c i j (from + 3 + 1) line rest (record { room = v.room; sum = v.sum; few = v.few }) f sp in
      record { from = r.from; line = r.line; spelt = r.spelt; reads = not_row refl r.reads })
  stands (binary Or a b) =
      let f = stands a in
      let g = stands b in
      at0 (expr_lexemes (binary Or a b)) (binary Or a b) (depth (binary Or a b)) (λ rest. left-begins a b f g 0 _)
      (disjunction (left a b f g 0) (right a b f g 1) a b (left_depth a b f g 0) (right_depth a b f g 1) f.as_expr g.as_and)
  stands (binary And a b) =
      let f = stands a in
      let g = stands b in
      at1 (expr_lexemes (binary And a b)) (binary And a b) (depth (binary And a b)) (λ rest. left-begins a b f g 1 _)
      (conjunction (left a b f g 1) (right a b f g 2) a b (left_depth a b f g 1) (right_depth a b f g 2) f.as_and g.as_not)
  stands (binary Eq a b) = comparison-stands a b (stands a) (stands b) Eq s.Equal refl (ends4 refl refl refl refl)
  stands (binary Ne a b) = comparison-stands a b (stands a) (stands b) Ne s.NotEqual refl (ends4 refl refl refl refl)
  stands (binary Lt a b) = comparison-stands a b (stands a) (stands b) Lt s.Less refl (ends4 refl refl refl refl)
  stands (binary Le a b) = comparison-stands a b (stands a) (stands b) Le s.AtMost refl (ends4 refl refl refl refl)
  stands (binary Gt a b) = comparison-stands a b (stands a) (stands b) Gt s.Greater refl (ends4 refl refl refl refl)
  stands (binary Ge a b) = comparison-stands a b (stands a) (stands b) Ge s.AtLeast refl (ends4 refl refl refl refl)
  stands (binary Add a b) = sum-stands a b (stands a) (stands b) Add s.Plus refl (ends5 refl refl refl)
  stands (binary Sub a b) = sum-stands a b (stands a) (stands b) Sub s.Minus refl (ends5 refl refl refl)
  stands (binary Mul a b) = product-stands a b (stands a) (stands b) Mul s.Star refl (ends7 refl refl)
  stands (binary Div a b) = product-stands a b (stands a) (stands b) Div s.Slash refl (ends7 refl refl)
  stands (binary Rem a b) = product-stands a b (stands a) (stands b) Rem s.Percent refl (ends7 refl refl)
  stands (size q) = at7 (expr_lexemes (size q)) (size q) 0 (λ rest. record { right = refl; args = refl }) (λ rest. refl) (λ rest. refl)
      (size-primary q)
  stands (element q e) =
      let g = stands e in
      at7 (expr_lexemes (element q e)) (element q e) (depth (element q e)) (λ rest. (base-begins q.base _).begins)
      (λ rest. (base-begins q.base _).starts) (λ rest. (base-begins q.base _).plus) (element-primary q e (depth e) g.bare)
