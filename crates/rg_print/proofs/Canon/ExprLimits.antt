-- What an expression spends of the limits, from its parts.
use Rattle.std.proofs.Common.{◌≡◌, ℕ, zero, suc, ◌+◌, ◌<◌, ◌≤◌, max, nat_lt, Bool, true, false, Some, Ok, refl, sym, ◌∙◌, ap, subst, arith}
use Rattle.std.proofs.lemmas.Bool.Decides.{nat_tests}
use Rattle.rg_base.specs.declared.words.Keyword.TheVariants as w
use Rattle.rg_base.specs.declared.words.Sign.TheVariants as s
use Rattle.rg_base.specs.declared.token.Kind.{Kind}
use Rattle.rg_base.specs.declared.token.Kind.TheVariants as k
use Rattle.rg_base.specs.declared.fault.Code.{Code}
use Rattle.rg_base.specs.declared.fault.Code.TheVariants as code
use Rattle.rg_tree.specs.declared.rows.BinOp.{BinOp}
use Rattle.rg_tree.specs.declared.rows.BinOp.TheVariants.{Eq, Ne, Lt, Le, Gt, Ge, Add, Sub, Mul, Div, Rem}
use Rattle.rg_tree.specs.declared.counts.Counts.{Counts}
use Rattle.rg_tree.specs.Tree.{Name, Path, Expr, number, boolean, nil, path, is_nil, binary, size, element}
use Rattle.rg_tree.specs.Canonical.{level, op_level, left_level, right_level}
use Rattle.rg_tree.specs.Counts.{opened, closed, one_sign}
use Rattle.rg_tree.proofs.Callers.{within-ok}
use Rattle.rg_tree.specs.Operators.{comparison_of, sum_of, product_of, literal_of}
use Rattle.rg_print.proofs.Canon.FineTokens.{FineKind}
use Rattle.rg_print.proofs.Canon.LexemesApart.{PathPlain}
use Rattle.rg_print.proofs.Canon.Readings.{with_signs, signs, one_if, depth, deeper, closed-deeper}
use Rattle.rg_print.proofs.Canon.PartReads.{Fits}

-- the depth of an expression where this is the least level that stands bare
abbrev pub depth_at : ℕ → Expr → ℕ
depth_at least e = one_if (nat_lt (level e) least) (depth e)

-- the depth grows with the least level that stands bare
one_if-cases : (a b : Bool) (m i j n : ℕ) → nat_lt m i ≡ a → nat_lt m j ≡ b → i ≤ j → one_if a n ≤ one_if b n
one_if-cases true true m i j n x y l = omega arith
one_if-cases true false m i j n x y l = absurd (grind (arith, nat_tests))
one_if-cases false true m i j n x y l = omega arith
one_if-cases false false m i j n x y l = omega arith

one_if-more : (v : Bool) (n : ℕ) → n ≤ one_if v n
one_if-more true n = omega arith
one_if-more false n = omega arith

-- no level is below the lowest
no_lt-zero : (n : ℕ) → nat_lt n 0 ≡ false
no_lt-zero n = grind (arith, nat_tests)

-- what fits with some depth fits with less
Fits-less : {c d : Counts} {e : Expr} (n m : ℕ) → n ≤ m → Fits c m e d → Fits c n e d
Fits-less n m l w = let r = w.room in record { plain = w.plain; room = λ h. omega arith; spent = w.spent; few = w.few }

-- at a level that is less tight
pub looser : {c d : Counts} {e : Expr} (i j : ℕ) → i ≤ j → Fits c (depth_at j e) e d → Fits c (depth_at i e) e d
looser {c} {d} {e} i j l w =
    Fits-less (depth_at i e) (depth_at j e) (one_if-cases (nat_lt (level e) i) (nat_lt (level e) j) (level e) i j (depth e) refl refl l) w

-- as a whole expression
pub loosest : {c d : Counts} {e : Expr} (j : ℕ) → Fits c (depth_at j e) e d → Fits c (depth e) e d
loosest {c} {d} {e} j w = Fits-less (depth e) (depth_at j e) (one_if-more (nat_lt (level e) j) (depth e)) w

-- where a whole expression stands bare
pub at_zero : {c d : Counts} {e : Expr} → Fits c (depth e) e d → Fits c (depth_at 0 e) e d
at_zero {c} {d} {e} w = let z = no_lt-zero (level e) in rw z w

-- What a limit that isn't passed says.

pub one_sign-counts : (c d : Counts) → one_sign c ≡ Ok d → (c.signs < 512) × (d ≡ with_signs c (c.signs + 1))
one_sign-counts c d h =
    let r = within-ok (nat_lt c.signs 512) code.Limit (with_signs c (c.signs + 1)) d h in
    let t = r.0 in (grind (arith, nat_tests), sym r.1)

pub opened-counts : (c d : Counts) → opened c ≡ Ok d → (c.brackets < 64) × (d ≡ deeper c)
opened-counts c d h =
    let r = within-ok (nat_lt c.brackets 64) code.Nesting (deeper c) d h in
    let t = r.0 in (grind (arith, nat_tests), sym r.1)

-- what holds where something is spent, for all that is spent
-- what holds of each operand, of both
room-both : (x y b : ℕ) → (0 < x → b + x ≤ 64) → (0 < y → b + y ≤ 64) → 0 < max x y → b + max x y ≤ 64
room-both zero y b h i l = let r = i (omega arith) in omega arith
room-both (suc x) zero b h i l = let r = h (omega arith) in omega arith
room-both (suc x) (suc y) b h i l = let r = h (omega arith) in let q = i (omega arith) in omega arith

signs-both : (n m i : ℕ) → i + n < 512 → (0 < m → i + n + 1 + m ≤ 512) → i + (n + m + 1) ≤ 512
signs-both n zero i l h = omega arith
signs-both n (suc m) i l h = let r = h (omega arith) in omega arith

-- an operator of two operands
pub binary-fits : (op : BinOp) (a b : Expr) (c d e f : Counts) → Fits c (depth_at (left_level op) a) a d → one_sign d ≡ Ok e
    → Fits e (depth_at (right_level op) b) b f → Fits c (depth (binary op a b)) (binary op a b) f
binary-fits op a b c d e f x h y =
    let o = one_sign-counts d e h in
    let l = o.0 in
    let db : d.brackets ≡ c.brackets = ap (λ z. z.brackets) x.spent in
    let ds : d.signs ≡ c.signs + signs a = ap (λ z. z.signs) x.spent in
    let eb : e.brackets ≡ d.brackets = ap (λ z. z.brackets) o.1 in
    let es : e.signs ≡ d.signs + 1 = ap (λ z. z.signs) o.1 in
    let yr = y.room in
    let yf = y.few in
    let n = e.signs + signs b in
    let q : n ≡ c.signs + (signs a + signs b + 1) = omega arith in
    record {
      plain = (x.plain, y.plain);
      room = room-both (depth_at (left_level op) a) (depth_at (right_level op) b) c.brackets x.room
          (λ i. let r = yr i in omega arith);
      spent = y.spent ∙ ap (λ z. with_signs z n) o.1 ∙ ap (λ z. with_signs z n) x.spent ∙ ap (with_signs c) q;
      few = λ i. signs-both (signs a) (signs b) c.signs (omega arith) (λ i. let r = yf i in omega arith);
    }

-- one bracket deeper
brackets-room : (v : Bool) (n b : ℕ) → b < 64 → (0 < n → b + 1 + n ≤ 64) → 0 < one_if v n → b + one_if v n ≤ 64
brackets-room true zero b l h i = omega arith
brackets-room true (suc n) b l h i = let r = h (omega arith) in omega arith
brackets-room false zero b l h i = omega arith
brackets-room false (suc n) b l h i = let r = h (omega arith) in omega arith

record Within (c : Counts) (a : Expr) (d : Counts) : Type 0 where
  room : (v : Bool) → 0 < one_if v (depth a) → c.brackets + one_if v (depth a) ≤ 64
  spent : d ≡ with_signs c (c.signs + signs a)
  few : 0 < signs a → c.signs + signs a ≤ 512

brackets-within : (a : Expr) (c d e : Counts) → opened c ≡ Ok d → Fits d (depth a) a e → Within c a (closed e)
brackets-within a c d e h x =
    let o = opened-counts c d h in
    let db : d.brackets ≡ c.brackets + 1 = ap (λ z. z.brackets) o.1 in
    let ds : d.signs ≡ c.signs = ap (λ z. z.signs) o.1 in
    let r = x.room in
    let f = x.few in
    let n = d.signs + signs a in
    let q : n ≡ c.signs + signs a = omega arith in
    record {
      room = λ v. brackets-room v (depth a) c.brackets o.0 (λ i. let q = r i in omega arith);
      spent = ap closed x.spent ∙ ap (λ z. closed (with_signs z n)) o.1 ∙ closed-deeper (with_signs c n) ∙ ap (with_signs c) q;
      few = λ i. let q = f i in omega arith;
    }

-- in parentheses
pub parens-fits : (a : Expr) (c d e : Counts) → opened c ≡ Ok d → Fits d (depth a) a e → Fits c (depth_at 7 a) a (closed e)
parens-fits a c d e h x =
    let r = brackets-within a c d e h x in
    record { plain = x.plain; room = r.room (nat_lt (level a) 7); spent = r.spent; few = r.few }

-- an element, with its index in brackets
pub element-fits : (q : Path) (a : Expr) (c d e : Counts) → PathPlain q → opened c ≡ Ok d → Fits d (depth a) a e
    → Fits c (depth_at 7 (element q a)) (element q a) (closed e)
element-fits q a c d e f h x =
    let r = brackets-within a c d e h x in
    record { plain = (f, x.plain); room = r.room true; spent = r.spent; few = r.few }

-- without parentheses and signs
plain-spent : (c : Counts) → c ≡ with_signs c (c.signs + 0)
plain-spent c = let e : c.signs ≡ c.signs + 0 = omega arith in ap (with_signs c) e

-- a token that is an expression by itself
pub literal-fits : (x : Kind) (n : Name) (a : Expr) (c : Counts) → literal_of x ≡ Some a → FineKind x n → Fits c (depth_at 7 a) a c
literal-fits (k.Number z) n a c h f = let e : number z ≡ a = cc in subst (λ y. Fits c (depth_at 7 y) y c) e (record {
  plain = f;
  room = λ i. absurd (omega arith);
  spent = plain-spent c;
  few = λ i. absurd (omega arith);
})
literal-fits (k.Word w.True) n a c h f = let e : boolean true ≡ a = cc in subst (λ y. Fits c (depth_at 7 y) y c) e (record {
  plain = tt;
  room = λ i. absurd (omega arith);
  spent = plain-spent c;
  few = λ i. absurd (omega arith);
})
literal-fits (k.Word w.False) n a c h f = let e : boolean false ≡ a = cc in subst (λ y. Fits c (depth_at 7 y) y c) e (record {
  plain = tt;
  room = λ i. absurd (omega arith);
  spent = plain-spent c;
  few = λ i. absurd (omega arith);
})
literal-fits (k.Word w.Nil) n a c h f = let e : nil ≡ a = cc in subst (λ y. Fits c (depth_at 7 y) y c) e (record {
  plain = tt;
  room = λ i. absurd (omega arith);
  spent = plain-spent c;
  few = λ i. absurd (omega arith);
})
literal-fits _ n a c h f = cc

pub path-fits : (q : Path) (c : Counts) → PathPlain q → Fits c (depth_at 7 (path q)) (path q) c
path-fits q c f = record { plain = f; room = λ i. absurd (omega arith); spent = plain-spent c; few = λ i. absurd (omega arith) }

pub is_nil-fits : (q : Path) (c : Counts) → PathPlain q → Fits c (depth_at 7 (is_nil q)) (is_nil q) c
is_nil-fits q c f = record { plain = f; room = λ i. absurd (omega arith); spent = plain-spent c; few = λ i. absurd (omega arith) }

pub size-fits : (q : Path) (c : Counts) → PathPlain q → Fits c (depth_at 7 (size q)) (size q) c
size-fits q c f = record { plain = f; room = λ i. absurd (omega arith); spent = plain-spent c; few = λ i. absurd (omega arith) }

-- The levels of operators, by their signs.

pub record LevelsAre (op : BinOp) (l r m : ℕ) : Type 0 where
  pub left : left_level op ≡ l
  pub right : right_level op ≡ r
  pub own : op_level op ≡ m

pub comparison-levels : (x : Kind) (o : BinOp) → comparison_of x ≡ Some o → LevelsAre o 4 4 3
comparison-levels (k.Mark s.Equal) o h = let e : Eq ≡ o = cc in subst (λ z. LevelsAre z 4 4 3) e (record { left = refl; right = refl; own = refl })
comparison-levels (k.Mark s.NotEqual) o h = let e : Ne ≡ o = cc in subst (λ z. LevelsAre z 4 4 3) e (record { left = refl; right = refl; own = refl })
comparison-levels (k.Mark s.Less) o h = let e : Lt ≡ o = cc in subst (λ z. LevelsAre z 4 4 3) e (record { left = refl; right = refl; own = refl })
comparison-levels (k.Mark s.AtMost) o h = let e : Le ≡ o = cc in subst (λ z. LevelsAre z 4 4 3) e (record { left = refl; right = refl; own = refl })
comparison-levels (k.Mark s.Greater) o h = let e : Gt ≡ o = cc in subst (λ z. LevelsAre z 4 4 3) e (record { left = refl; right = refl; own = refl })
comparison-levels (k.Mark s.AtLeast) o h = let e : Ge ≡ o = cc in subst (λ z. LevelsAre z 4 4 3) e (record { left = refl; right = refl; own = refl })
comparison-levels _ o h = cc

pub sum-levels : (x : Kind) (o : BinOp) → sum_of x ≡ Some o → LevelsAre o 4 5 4
sum-levels (k.Mark s.Plus) o h = let e : Add ≡ o = cc in subst (λ z. LevelsAre z 4 5 4) e (record { left = refl; right = refl; own = refl })
sum-levels (k.Mark s.Minus) o h = let e : Sub ≡ o = cc in subst (λ z. LevelsAre z 4 5 4) e (record { left = refl; right = refl; own = refl })
sum-levels _ o h = cc

pub product-levels : (x : Kind) (o : BinOp) → product_of x ≡ Some o → LevelsAre o 5 6 5
product-levels (k.Mark s.Star) o h = let e : Mul ≡ o = cc in subst (λ z. LevelsAre z 5 6 5) e (record { left = refl; right = refl; own = refl })
product-levels (k.Mark s.Slash) o h = let e : Div ≡ o = cc in subst (λ z. LevelsAre z 5 6 5) e (record { left = refl; right = refl; own = refl })
product-levels (k.Mark s.Percent) o h = let e : Rem ≡ o = cc in subst (λ z. LevelsAre z 5 6 5) e (record { left = refl; right = refl; own = refl })
product-levels _ o h = cc

-- an operator of such levels, at its own level
pub operator-fits : (l r m : ℕ) (op : BinOp) (a b : Expr) (c d e f : Counts) → LevelsAre op l r m → Fits c (depth_at l a) a d → one_sign d ≡ Ok e
    → Fits e (depth_at r b) b f → Fits c (depth_at m (binary op a b)) (binary op a b) f
operator-fits l r m op a b c d e f t x h y =
    let z : nat_lt m m ≡ false = grind (arith, nat_tests) in
    let bx : Fits c (depth_at (left_level op) a) a d = rw t.left x in
    let by' : Fits e (depth_at (right_level op) b) b f = rw t.right y in
    let w = binary-fits op a b c d e f bx h by' in
    let i : one_if (nat_lt (level (binary op a b)) m) (depth (binary op a b)) ≡ depth (binary op a b) = rw (t.own, z) refl in
    rw i w
