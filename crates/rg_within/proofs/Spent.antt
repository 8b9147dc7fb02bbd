-- How many signs were counted, and what an expression spends of the limits.
use Rattle.std.proofs.Common.{◌≡◌, refl, sym, ap, subst, ℕ, suc, ◌+◌, ◌≤◌, max, nat_lt, Bool as Truth, true, false, Some}
use Rattle.std.proofs.Common.{Ok, arith}
use Rattle.std.proofs.lemmas.Bool.Decides.{nat_tests}
use Rattle.rg_base.specs.declared.limits.TheConstants.{BRACKETS, STATEMENT_SIGNS}
use Rattle.rg_base.specs.declared.words.Keyword.TheVariants as w
use Rattle.rg_base.specs.declared.words.Sign.TheVariants as s
use Rattle.rg_base.specs.declared.token.Kind.{Kind}
use Rattle.rg_base.specs.declared.token.Kind.TheVariants as k
use Rattle.rg_tree.specs.declared.rows.BinOp.{BinOp}
use Rattle.rg_tree.specs.declared.rows.BinOp.TheVariants.{Or, And, Eq, Ne, Lt, Le, Gt, Ge, Add, Sub, Mul, Div, Rem}
use Rattle.rg_tree.specs.declared.counts.Counts.{Counts}
use Rattle.rg_tree.specs.Tree.{Name, Path, Expr, number, boolean, nil, path, is_nil, neg, not, binary, size, element}
use Rattle.rg_tree.specs.Canonical.{op_level, left_level, right_level, level}
use Rattle.rg_tree.specs.Counts.{opened, closed, one_field, one_method, one_param, one_local, one_sign}
use Rattle.rg_tree.specs.Operators.{comparison_of, sum_of, product_of, literal_of}
use Rattle.rg_tree.proofs.Callers.{within-ok}
use Rattle.rg_limits.specs.Signs.{expr_signs}
use Rattle.rg_limits.specs.Numbers.{HasSmall}
use Rattle.rg_limits.specs.Bare.{IsBarePath, IsBareExpr}
use Rattle.rg_limits.specs.Opens.{parens_opens, expr_opens}
use Rattle.rg_within.proofs.Tokens.{FineKind}

-- so many signs were counted, within the limit, and as many brackets are open
pub record Spent (n : ℕ) (c d : Counts) : Type 0 where
  pub signs : d.signs ≡ c.signs + n
  pub few : c.signs ≤ STATEMENT_SIGNS → d.signs ≤ STATEMENT_SIGNS
  pub brackets : d.brackets ≡ c.brackets

pub still : {c : Counts} → Spent 0 c c
still = record { signs = omega arith; few = λ l. l; brackets = refl }

-- one behind another, of which one counts no signs
pub behind : {c d e : Counts} {n : ℕ} → Spent 0 c d → Spent n d e → Spent n c e
behind a b = record {
  signs = omega (arith, a.signs, b.signs);
  few = λ l. b.few (a.few l);
  brackets = omega (arith, a.brackets, b.brackets);
}

pub before : {c d e : Counts} {n : ℕ} → Spent n c d → Spent 0 d e → Spent n c e
before a b = record {
  signs = omega (arith, a.signs, b.signs);
  few = λ l. b.few (a.few l);
  brackets = omega (arith, a.brackets, b.brackets);
}

pub as-many : {c d : Counts} {m n : ℕ} → Spent m c d → m ≡ n → Spent n c d
as-many a h = record { signs = omega (arith, a.signs, h); few = a.few; brackets = a.brackets }

-- The counts of single tokens

pub local-spent : {c d : Counts} → one_local c ≡ Ok d → Spent 0 c d
local-spent {c} {d} h =
    let e = (within-ok _ _ _ d h).1 in
    let s : c.signs ≡ d.signs = ap (λ (x : Counts). x.signs) e in
    let b : c.brackets ≡ d.brackets = ap (λ (x : Counts). x.brackets) e in
    record { signs = omega (arith, s); few = λ l. omega (arith, s, l); brackets = sym b }

pub param-spent : {c d : Counts} → one_param c ≡ Ok d → Spent 0 c d
param-spent {c} {d} h =
    let e = (within-ok _ _ _ d h).1 in
    let s : c.signs ≡ d.signs = ap (λ (x : Counts). x.signs) e in
    let b : c.brackets ≡ d.brackets = ap (λ (x : Counts). x.brackets) e in
    record { signs = omega (arith, s); few = λ l. omega (arith, s, l); brackets = sym b }

pub field-spent : {c d : Counts} → one_field c ≡ Ok d → Spent 0 c d
field-spent {c} {d} h =
    let e = (within-ok _ _ _ d h).1 in
    let s : c.signs ≡ d.signs = ap (λ (x : Counts). x.signs) e in
    let b : c.brackets ≡ d.brackets = ap (λ (x : Counts). x.brackets) e in
    record { signs = omega (arith, s); few = λ l. omega (arith, s, l); brackets = sym b }

pub method-spent : {c d : Counts} → one_method c ≡ Ok d → Spent 0 c d
method-spent {c} {d} h =
    let e = (within-ok _ _ _ d h).1 in
    let s : c.signs ≡ d.signs = ap (λ (x : Counts). x.signs) e in
    let b : c.brackets ≡ d.brackets = ap (λ (x : Counts). x.brackets) e in
    record { signs = omega (arith, s); few = λ l. omega (arith, s, l); brackets = sym b }

pub sign-spent : {c d : Counts} → one_sign c ≡ Ok d → Spent 1 c d
sign-spent {c} {d} h =
    let w = within-ok _ _ _ d h in
    let s : c.signs + 1 ≡ d.signs = ap (λ (x : Counts). x.signs) w.1 in
    let b : c.brackets ≡ d.brackets = ap (λ (x : Counts). x.brackets) w.1 in
    record { signs = omega (arith, s); few = λ l. grind (arith, nat_tests, w.0, s); brackets = sym b }

-- there is room for a bracket
pub record Opened (c d : Counts) : Type 0 where
  pub room : c.brackets + 1 ≤ BRACKETS
  pub brackets : d.brackets ≡ c.brackets + 1
  pub signs : d.signs ≡ c.signs

pub opened-so : {c d : Counts} → opened c ≡ Ok d → Opened c d
opened-so {c} {d} h =
    let w = within-ok _ _ _ d h in
    let s : c.signs ≡ d.signs = ap (λ (x : Counts). x.signs) w.1 in
    let b : c.brackets + 1 ≡ d.brackets = ap (λ (x : Counts). x.brackets) w.1 in
    record { room = grind (arith, nat_tests, w.0); brackets = sym b; signs = sym s }

-- in brackets
pub shut : {c d e : Counts} {n : ℕ} → opened c ≡ Ok d → Spent n d e → Spent n c (closed e)
shut h a =
    let o = opened-so h in
    record {
      signs = omega (arith, o.signs, a.signs);
      few = λ l. let m = a.few (omega (arith, l, o.signs)) in m;
      brackets = omega (arith, o.brackets, a.brackets);
    }

-- so many brackets more may be open, where some are
abbrev pub Room : (n k : ℕ) → Type 0
Room n k = n + k ≤ max n BRACKETS

-- no bracket is needed
pub no-room : (n : ℕ) → Room n 0
no-room n = omega arith

-- where as many are open, and behind a bracket
pub as-deep : {c d : Counts} {n : ℕ} (k : ℕ) → Spent n c d → Room d.brackets k → Room c.brackets k
as-deep k a r = omega (arith, a.brackets, r)

pub within : {c d : Counts} (k : ℕ) → Opened c d → Room d.brackets k → Room c.brackets (suc k)
within k o r = omega (arith, o.brackets, o.room, r)

-- an expression where this is the least level that stands bare
pub record Fits (least : ℕ) (c d : Counts) (e : Expr) : Type 0 where
  pub spent : Spent (expr_signs e) c d
  pub small : HasSmall e
  pub bare : IsBareExpr e
  pub room : Room c.brackets (expr_opens e)
  pub placed : Room c.brackets (parens_opens (nat_lt (level e) least) (expr_opens e))

-- at a level that is less tight
looser-by : (a b : Truth) (n m i j k : ℕ) → nat_lt m i ≡ a → nat_lt m j ≡ b → i ≤ j → Room n k → Room n (parens_opens b k)
    → Room n (parens_opens a k)
looser-by true true n m i j k x y l h p = p
looser-by true false n m i j k x y l h p = absurd (grind (arith, nat_tests))
looser-by false b n m i j k x y l h p = h

pub looser : {c d : Counts} {e : Expr} (i j : ℕ) → i ≤ j → Fits j c d e → Fits i c d e
looser {c} {d} {e} i j l f = record {
  spent = f.spent;
  small = f.small;
  bare = f.bare;
  room = f.room;
  placed = looser-by (nat_lt (level e) i) (nat_lt (level e) j) c.brackets (level e) i j (expr_opens e) refl refl l f.room f.placed;
}

-- an operator of two operands
both-room : (n i j : ℕ) → Room n i → Room n j → Room n (max i j)
both-room n i j x y = omega (arith, x, y)

module _ (op : BinOp) (a b : Expr) (c d e f : Counts) where
  binary-room : Fits (left_level op) c d a → one_sign d ≡ Ok e → Fits (right_level op) e f b → Room c.brackets (expr_opens (binary op a b))
  binary-room x h y =
      let i = parens_opens (nat_lt (level a) (left_level op)) (expr_opens a) in
      let j = parens_opens (nat_lt (level b) (right_level op)) (expr_opens b) in
      both-room c.brackets i j x.placed (as-deep j x.spent (as-deep j (sign-spent h) y.placed))

  binary-spent : Spent (expr_signs a) c d → one_sign d ≡ Ok e → Spent (expr_signs b) e f → Spent (expr_signs (binary op a b)) c f
  binary-spent x h y =
      let z = sign-spent h in
      record {
        signs = omega (arith, x.signs, z.signs, y.signs);
        few = λ l. y.few (z.few (x.few l));
        brackets = omega (arith, x.brackets, z.brackets, y.brackets);
      }

-- The levels of operators, by their signs

pub record LevelsAre (op : BinOp) (l r m : ℕ) : Type 0 where
  pub left : left_level op ≡ l
  pub right : right_level op ≡ r
  pub own : op_level op ≡ m

pub comparison-levels : (x : Kind) (o : BinOp) → comparison_of x ≡ Some o → LevelsAre o 4 4 3
comparison-levels (k.Mark s.Equal) o h = let e : Eq ≡ o = cc in subst (λ z. LevelsAre z 4 4 3) e (record { left = refl; right = refl; own = refl })
comparison-levels (k.Mark s.NotEqual) o h = let e : Ne ≡ o = cc in subst (λ z. LevelsAre z 4 4 3) e (record { left = refl; right = refl; own = refl })
comparison-levels (k.Mark s.Less) o h = let e : Lt ≡ o = cc in subst (λ z. LevelsAre z 4 4 3) e (record { left = refl; right = refl; own = refl })
comparison-levels (k.Mark s.AtMost) o h = let e : Le ≡ o = cc in subst (λ z. LevelsAre z 4 4 3) e (record { left = refl; right = refl; own = refl })
comparison-levels (k.Mark s.Greater) o h = let e : Gt ≡ o = cc in subst (λ z. LevelsAre z 4 4 3) e (record { left = refl; right = refl; own = refl })
comparison-levels (k.Mark s.AtLeast) o h = let e : Ge ≡ o = cc in subst (λ z. LevelsAre z 4 4 3) e (record { left = refl; right = refl; own = refl })
comparison-levels _ o h = cc

pub sum-levels : (x : Kind) (o : BinOp) → sum_of x ≡ Some o → LevelsAre o 4 5 4
sum-levels (k.Mark s.Plus) o h = let e : Add ≡ o = cc in subst (λ z. LevelsAre z 4 5 4) e (record { left = refl; right = refl; own = refl })
sum-levels (k.Mark s.Minus) o h = let e : Sub ≡ o = cc in subst (λ z. LevelsAre z 4 5 4) e (record { left = refl; right = refl; own = refl })
sum-levels _ o h = cc

pub product-levels : (x : Kind) (o : BinOp) → product_of x ≡ Some o → LevelsAre o 5 6 5
product-levels (k.Mark s.Star) o h = let e : Mul ≡ o = cc in subst (λ z. LevelsAre z 5 6 5) e (record { left = refl; right = refl; own = refl })
product-levels (k.Mark s.Slash) o h = let e : Div ≡ o = cc in subst (λ z. LevelsAre z 5 6 5) e (record { left = refl; right = refl; own = refl })
product-levels (k.Mark s.Percent) o h = let e : Rem ≡ o = cc in subst (λ z. LevelsAre z 5 6 5) e (record { left = refl; right = refl; own = refl })
product-levels _ o h = cc

pub or-levels : LevelsAre Or 0 1 0
or-levels = record { left = refl; right = refl; own = refl }

pub and-levels : LevelsAre And 1 2 1
and-levels = record { left = refl; right = refl; own = refl }

-- an operator of such levels, at its own level
pub operator-fits : {op : BinOp} {a b : Expr} {c d e f : Counts} {l r m : ℕ} → LevelsAre op l r m → Fits l c d a → one_sign d ≡ Ok e → Fits r e f b
    → Fits m c f (binary op a b)
operator-fits {op} {a} {b} {c} {d} {e} {f} {l} {r} {m} t x h y =
    let left : Fits (left_level op) c d a = subst (λ (i : ℕ). Fits i c d a) (sym t.left) x in
    let right : Fits (right_level op) e f b = subst (λ (i : ℕ). Fits i e f b) (sym t.right) y in
    let room = binary-room op a b c d e f left h right in
    let k = expr_opens (binary op a b) in
    let alone : nat_lt (op_level op) m ≡ false = by (op_level op) m t.own in
    record {
      spent = binary-spent op a b c d e f x.spent h y.spent;
      small = (x.small, y.small);
      bare = (x.bare, y.bare);
      room = room;
      placed = subst (λ (v : Truth). Room c.brackets (parens_opens v k)) (sym alone) room;
    }
  where
    by : (i m : ℕ) → i ≡ m → nat_lt i m ≡ false
    by i m e = grind (arith, nat_tests)

-- signs of one operand
pub not-fits : {a : Expr} {c d : Counts} → Fits 3 c d a → Fits 2 c d (not a)
not-fits x = record { spent = x.spent; small = x.small; bare = x.bare; room = x.placed; placed = x.placed }

pub neg-fits : {a : Expr} {c d : Counts} → Fits 7 c d a → Fits 6 c d (neg a)
neg-fits x = record { spent = x.spent; small = x.small; bare = x.bare; room = x.placed; placed = x.placed }

-- in parentheses
parens-by : (v : Truth) (n k : ℕ) → Room n (suc k) → Room n (parens_opens v k)
parens-by true n k r = r
parens-by false n k r = omega (arith, r)

pub parens-fits : {a : Expr} {c d e : Counts} → opened c ≡ Ok d → Fits 0 d e a → Fits 7 c (closed e) a
parens-fits {a} {c} h x =
    let room : Room c.brackets (suc (expr_opens a)) = within (expr_opens a) (opened-so h) x.room in
    record {
      spent = shut h x.spent;
      small = x.small;
      bare = x.bare;
      room = parens-by false c.brackets (expr_opens a) room;
      placed = parens-by (nat_lt (level a) 7) c.brackets (expr_opens a) room;
    }

-- without signs and brackets
pub path-fits : {c d : Counts} (q : Path) → Spent 0 c d → IsBarePath q → Fits 7 c d (path q)
path-fits {c} q x h = record { spent = x; small = tt; bare = h; room = no-room c.brackets; placed = no-room c.brackets }

pub is_nil-fits : {c d : Counts} (q : Path) → Spent 0 c d → IsBarePath q → Fits 7 c d (is_nil q)
is_nil-fits {c} q x h = record { spent = x; small = tt; bare = h; room = no-room c.brackets; placed = no-room c.brackets }

pub size-fits : {c d : Counts} (q : Path) → Spent 0 c d → IsBarePath q → Fits 7 c d (size q)
size-fits {c} q x h = record { spent = x; small = tt; bare = h; room = no-room c.brackets; placed = no-room c.brackets }

pub element-fits : {a : Expr} {b c d e : Counts} (q : Path) → Spent 0 b c → IsBarePath q → opened c ≡ Ok d → Fits 0 d e a
    → Fits 7 b (closed e) (element q a)
element-fits {a} {b} q s p h x =
    let room : Room b.brackets (suc (expr_opens a)) = as-deep (suc (expr_opens a)) s (within (expr_opens a) (opened-so h) x.room) in
    record { spent = behind s (shut h x.spent); small = x.small; bare = (p, x.bare); room = room; placed = room }

-- a token that is an expression by itself
pub literal-fits : (x : Kind) (n : Name) (a : Expr) (c : Counts) → literal_of x ≡ Some a → FineKind x n → Fits 7 c c a
literal-fits (k.Number z) n a c h f =
    let e : number z ≡ a = cc in
    subst (Fits 7 c c) e (record { spent = still; small = f; bare = f; room = no-room c.brackets; placed = no-room c.brackets })
literal-fits (k.Word w.True) n a c h f =
    let e : boolean true ≡ a = cc in
    subst (Fits 7 c c) e (record { spent = still; small = tt; bare = tt; room = no-room c.brackets; placed = no-room c.brackets })
literal-fits (k.Word w.False) n a c h f =
    let e : boolean false ≡ a = cc in
    subst (Fits 7 c c) e (record { spent = still; small = tt; bare = tt; room = no-room c.brackets; placed = no-room c.brackets })
literal-fits (k.Word w.Nil) n a c h f =
    let e : nil ≡ a = cc in
    subst (Fits 7 c c) e (record { spent = still; small = tt; bare = tt; room = no-room c.brackets; placed = no-room c.brackets })
literal-fits _ n a c h f = cc
