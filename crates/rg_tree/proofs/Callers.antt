-- For crates above: what stays where a program grows, and what a span of numbers stands for.
use Rattle.std.proofs.Common.{◌≡◌, ℕ, zero, suc, ◌<◌, ◌≤◌, max, Bool, true, false, Option, None, Some, IfSome, Ok, List, [], ◌∷◌, ◌++◌, All, length}
use Rattle.std.proofs.Common.{get_or, refl, sym, ◌∙◌, ⊎_elim, arith}
use Rattle.std.proofs.lemmas.Bool.{cases_order}
use Rattle.std.proofs.lemmas.List.{length_push}
use Rattle.std.proofs.lemmas.List.Elements.{All-nil, All-cons, All-head, All-tail, All-weaker}
use Rattle.rg_base.specs.declared.fault.Code.{Code}
use Rattle.rg_tree.specs.declared.rows.Span.{Span}
use Rattle.rg_tree.specs.declared.counts.Counts.{Counts}
use Rattle.rg_tree.specs.Counts.{within}
use Rattle.rg_tree.specs.Rows.Tables.{Tables, name_at, numbers_in, AreDistinct}
use Rattle.rg_tree.specs.Rows.RowTrees.{exprs_of, expr_at, stmts_of, stmt_at, params_of, param_at, no_param, members_of, member_at, no_member}
use Rattle.rg_tree.specs.Rows.RowTrees.{classes_of, no_stmt, block_of}
use Rattle.rg_tree.specs.Tree.{nil}
use Rattle.rg_tree.specs.Rows.RowsExist.{Holds, IsSpanBelow, IsBlockIn}
use Rattle.rg_tree.specs.Keeps.{Keeps}
use Rattle.rg_tree.proofs.TreesFrom.{Begins-same, Begins-trans, length-Begins, get_or-Begins}
use Rattle.rg_tree.proofs.Grows.{IsAbove, AgreeBelow, numbers_in-grows, block_of-grows}
use Rattle.rg_tree.proofs.Programs.{length-exprs_of, length-stmts_of, length-params_of, length-members_of}

pub Keeps-same : (t : Tables) → Keeps t t
Keeps-same t = record {
  names = Begins-same t.names;
  numbers = Begins-same t.numbers;
  params = Begins-same (params_of t);
  members = Begins-same (members_of t);
  classes = Begins-same (classes_of t);
  stmts = Begins-same (stmts_of t);
  exprs = Begins-same (exprs_of t);
}

pub Keeps-trans : {t u v : Tables} → Keeps t u → Keeps u v → Keeps t v
Keeps-trans a b = record {
  names = Begins-trans a.names b.names;
  numbers = Begins-trans a.numbers b.numbers;
  params = Begins-trans a.params b.params;
  members = Begins-trans a.members b.members;
  classes = Begins-trans a.classes b.classes;
  stmts = Begins-trans a.stmts b.stmts;
  exprs = Begins-trans a.exprs b.exprs;
}

-- the lemmas of Grows apply: what existed exists, and paths, types, calls and right sides stand for the same
pub IsAbove-Keeps : {t u : Tables} → Keeps t u → IsAbove t u
IsAbove-Keeps {t} {u} k = record {
  begins = k.names;
  numbers = k.numbers;
  names = length-Begins k.names;
  listed = length-Begins k.numbers;
  params = omega (arith, length-Begins k.params, length-params_of t, length-params_of u);
  members = omega (arith, length-Begins k.members, length-members_of t, length-members_of u);
  stmts = omega (arith, length-Begins k.stmts, length-stmts_of t, length-stmts_of u);
  exprs = omega (arith, length-Begins k.exprs, length-exprs_of t, length-exprs_of u);
}

module _ {t u : Tables} (k : Keeps t u) where
  pub expr_at-keeps : AgreeBelow (length t.exprs) (expr_at u) (expr_at t)
  expr_at-keeps e l = get_or-Begins k.exprs nil e (omega (arith, length-exprs_of t))

  pub stmt_at-keeps : AgreeBelow (length t.stmts) (stmt_at u) (stmt_at t)
  stmt_at-keeps s l = get_or-Begins k.stmts no_stmt s (omega (arith, length-stmts_of t))

  pub param_at-keeps : AgreeBelow (length t.params) (param_at u) (param_at t)
  param_at-keeps n l = get_or-Begins k.params no_param n (omega (arith, length-params_of t))

  pub member_at-keeps : AgreeBelow (length t.members) (member_at u) (member_at t)
  member_at-keeps n l = get_or-Begins k.members no_member n (omega (arith, length-members_of t))

  pub block_of-keeps : (s : Span) → IsBlockIn t s → block_of u s ≡ block_of t s
  block_of-keeps s h = block_of-grows (IsAbove-Keeps k) stmt_at-keeps s h

  pub Holds-keeps : (s : Span) (ks : List ℕ) → Holds t s ks → Holds u s ks
  Holds-keeps s ks h = record {
    within = record { ordered = h.within.ordered; ends = omega (arith, h.within.ends, length-Begins k.numbers) };
    these_are = numbers_in-grows (IsAbove-Keeps k) s h.within ∙ h.these_are;
  }

-- a span of numbers below n
pub IsSpanBelow-Holds : {t : Tables} (s : Span) (ks : List ℕ) (n : ℕ) → Holds t s ks → All (λ k. k < n) ks → IsSpanBelow t n s
IsSpanBelow-Holds s ks n h a = record { within = h.within; each = rw h.these_are a }

-- a span of one number, and of none
pub IsSpanBelow-one : {t : Tables} (s : Span) (k n : ℕ) → Holds t s (k ∷ []) → k < n → IsSpanBelow t n s
IsSpanBelow-one s k n h l = IsSpanBelow-Holds s (k ∷ []) n h (All-cons (λ i. i < n) k [] l (All-nil (λ i. i < n)))

pub IsSpanBelow-none : {t : Tables} (s : Span) (n : ℕ) → Holds t s [] → IsSpanBelow t n s
IsSpanBelow-none s n h = IsSpanBelow-Holds s [] n h (All-nil (λ i. i < n))

-- the number of the row that was put last
pub below-push : {A : Type 0} (xs : List A) (x : A) (n : ℕ) → n ≡ length xs → n < length (xs ++ x ∷ [])
below-push xs x n e = omega (arith, length_push xs x)

-- two numbers of one name are equal
pub name_at-injective : (t : Tables) → AreDistinct t.names → (i j : ℕ) → i < length t.names → j < length t.names → name_at t i ≡ name_at t j → i ≡ j
name_at-injective t d i j li lj e =
    ⊎_elim (λ same. same)
    (λ apart. ⊎_elim (λ l. absurd (d i j [] l lj e)) (λ l. absurd (d j i [] l li (sym e))) apart) (cases_order i j)

-- Measures: a recursion over statements falls from a span to its numbers, and from a statement to its spans.

-- the least number above all of these
abbrev pub above : List ℕ → ℕ
above [] = 0
above (k ∷ ks) = max (suc k) (above ks)

pub below-above : (ks : List ℕ) (i : ℕ) → i < length ks → get_or ks i 0 < above ks
below-above [] i l = absurd (omega arith)
below-above (k ∷ ks) zero l = omega arith
below-above (k ∷ ks) (suc i) l = omega (arith, below-above ks i (omega arith))

pub above-le : (n : ℕ) (ks : List ℕ) → All (λ k. k < n) ks → above ks ≤ n
above-le n [] a = omega arith
above-le n (k ∷ ks) a = omega (arith, All-head (λ k. k < n) k ks a, above-le n ks (All-tail (λ k. k < n) k ks a))

-- the least number above all of a span, which may be none
abbrev pub above_some : Tables → Option Span → ℕ
above_some t None = 0
above_some t (Some s) = above (numbers_in t s)

-- a block within a statement
pub IsBlockIn-below : (t : Tables) (n : ℕ) (s : Span) → n < length t.stmts → IsSpanBelow t n s → IsBlockIn t s
IsBlockIn-below t n s l b = record {
  within = b.within;
  each = All-weaker (λ k. k < n) (λ k. k < length t.stmts) (λ k h. omega arith) (numbers_in t s) b.each;
}

-- its numbers are below the statement's
pub above-below : (t : Tables) (n : ℕ) (s : Span) → IsSpanBelow t n s → above (numbers_in t s) ≤ n
above-below t n s b = above-le n (numbers_in t s) b.each

-- the same of a block that may be none
pub IsBlockIn-below_some : (t : Tables) (n : ℕ) (o : Option Span) → n < length t.stmts → IfSome o (IsSpanBelow t n) → IfSome o (IsBlockIn t)
IsBlockIn-below_some t n None l b = b
IsBlockIn-below_some t n (Some s) l b = IsBlockIn-below t n s l b

pub above_some-below : (t : Tables) (n : ℕ) (o : Option Span) → IfSome o (IsSpanBelow t n) → above_some t o ≤ n
above_some-below t n None b = omega arith
above_some-below t n (Some s) b = above-below t n s b

-- the parts of a test of counts that passed
pub within-ok : (b : Bool) (f : Code) (c d : Counts) → within b f c ≡ Ok d → (b ≡ true) × (c ≡ d)
within-ok true f c d h = (refl, cc)
within-ok false f c d h = cc
