-- What is left behind the parts of a list, counted down.
use Rattle.std.proofs.Common.{◌≡◌, refl, sym, ℕ, zero, suc, ◌+◌, ◌-◌, ◌≤◌, ◌<◌, max, nat_lt, Bool as Truth, true, false, Option, Some, None, List}
use Rattle.std.proofs.Common.{[], ◌∷◌, drop, map, get_or, length}
use Rattle.std.proofs.Common.{subst, arith}
use Rattle.std.proofs.lemmas.List.{drop_more, drop_all}
use Rattle.std.specs.Prelude.{⊤}
use Rattle.std.proofs.lemmas.Bool.Decides.{nat_tests}
use Rattle.std.specs.List.{AllByRecursion}
use Rattle.rg_tree.specs.Tree.{Expr, Stmt, stmt, Block, then as next}
use Rattle.rg_tree.specs.Rows.RowTrees.{block_over}
use Rattle.rg_rules.specs.Names.{stmt_names, block_names}
use Rattle.rg_limits.specs.Each.{HoldsInBlock}
use Rattle.rg_limits.specs.Signs.{expr_signs, exprs_signs}
use Rattle.rg_limits.specs.Numbers.{HasSmall}
use Rattle.rg_limits.specs.Opens.{parens_opens, expr_opens, exprs_opens, block_opens}
use Rattle.rg_limits.specs.Inner.Counting.{Leaves}
use Rattle.rg_limits.specs.Inner.Fine.{stmt_opens, IsFine, IsStmtFine}

-- what is left behind two parts
pub both : (left rest a b : ℕ) (P Q : Type 0) (o : Option ℕ) → Leaves left a P (Some rest) → Leaves rest b Q o → Leaves left (a + b) (P × Q) o
both left rest a b P Q (Some r) one two = (omega (arith, one.0, two.0), (one.1, two.1))
both left rest a b P Q None one two = λ fits holds. two (omega (arith, one.0, fits)) holds.1

-- where the first takes too many, or doesn't hold
pub first-fails : (left a b : ℕ) (P Q : Type 0) → Leaves left a P None → Leaves left (a + b) (P × Q) None
first-fails left a b P Q one = λ fits holds. one (omega (arith, fits)) holds.0

-- what is left where the same is said otherwise
Leaves-same : (left taken : ℕ) (P Q : Type 0) (o : Option ℕ) → (P → Q) → (Q → P) → Leaves left taken P o → Leaves left taken Q o
Leaves-same left taken P Q (Some r) to from h = (h.0, to h.1)
Leaves-same left taken P Q None to from h = λ fits holds. h fits (from holds)

-- Brackets

-- in brackets one fewer may be open
pub in-brackets : (left taken opens room : ℕ) (P : Type 0) (o : Option ℕ) → (room ≡ 0 → ⊥) → Leaves left taken (P × (opens ≤ room - 1)) o
    → Leaves left taken (P × (suc opens ≤ room)) o
in-brackets left taken opens room P o some h =
    Leaves-same left taken (P × (opens ≤ room - 1)) (P × (suc opens ≤ room)) o (λ q. (q.0, more room some q.1)) (λ q. (q.0, omega (arith, q.1))) h
  where
    more : (n : ℕ) → (n ≡ 0 → ⊥) → opens ≤ n - 1 → suc opens ≤ n
    more zero z l = absurd (z refl)
    more (suc n) z l = omega (arith, l)

-- two parts, one behind the other
pub two-parts : (left rest a b x y room : ℕ) (P Q : Type 0) (o : Option ℕ) → Leaves left a (P × (x ≤ room)) (Some rest)
    → Leaves rest b (Q × (y ≤ room)) o → Leaves left (a + b) ((P × Q) × (max x y ≤ room)) o
two-parts left rest a b x y room P Q o one two =
    Leaves-same left (a + b) ((P × (x ≤ room)) × (Q × (y ≤ room))) ((P × Q) × (max x y ≤ room)) o
    (λ q. ((q.0.0, q.1.0), omega (arith, q.0.1, q.1.1))) (λ q. ((q.0.0, omega (arith, q.1)), (q.0.1, omega (arith, q.1))))
    (both left rest a b (P × (x ≤ room)) (Q × (y ≤ room)) o one two)

-- one is taken in front
pub one-taken : (left taken : ℕ) (P : Type 0) (o : Option ℕ) → (left ≡ 0 → ⊥) → Leaves (left - 1) taken P o → Leaves left (suc taken) P o
one-taken zero taken P o some h = absurd (some refl)
one-taken (suc left) taken P (Some r) some h = (omega (arith, h.0), h.1)
one-taken (suc left) taken P None some h = λ fits holds. h (omega (arith, fits)) holds

-- operands, bare and in parentheses

not-less : (has least : ℕ) → least ≤ has → nat_lt has least ≡ false
not-less has least l = grind (arith, nat_tests)

is-less : (has least : ℕ) → has < least → nat_lt has least ≡ true
is-less has least l = grind (arith, nat_tests)

module _ (left taken has least opens room : ℕ) (P : Type 0) (o : Option ℕ) where
  -- in parentheses or not
  abbrev Operand : Truth → Type 0
  Operand v = Leaves left taken (P × (parens_opens v opens ≤ room)) o

  pub bare-operand : least ≤ has → Leaves left taken (P × (opens ≤ room)) o → Operand (nat_lt has least)
  bare-operand l h = subst Operand (sym (not-less has least l)) h

  pub in-parens : has < least → Leaves left taken (P × (suc opens ≤ room)) o → Operand (nat_lt has least)
  in-parens l h = subst Operand (sym (is-less has least l)) h

-- Lists. What the rest of a list leaves of what is left in front of it, the whole leaves.
abbrev pub GoesOn : (taken : List ℕ → ℕ) (Fine : List ℕ → Type 0) (rest : List ℕ) (now : ℕ) (whole : List ℕ) (left : ℕ) → Type 0
GoesOn taken Fine rest now whole left = (o : Option ℕ) → Leaves now (taken rest) (Fine rest) o → Leaves left (taken whole) (Fine whole) o

-- a list is taken by its first number and the others
abbrev pub ByFirst : (taken : List ℕ → ℕ) (Fine : List ℕ → Type 0) (one : ℕ → ℕ) (FineOne : ℕ → Type 0) → Type 0
ByFirst taken Fine one FineOne =
    (k : ℕ) (ks : List ℕ) (left : ℕ) (o : Option ℕ) → Leaves left (one k + taken ks) (FineOne k × Fine ks) o
    → Leaves left (taken (k ∷ ks)) (Fine (k ∷ ks)) o

module _ (taken : List ℕ → ℕ) (Fine : List ℕ → Type 0) (one : ℕ → ℕ) (FineOne : ℕ → Type 0) (first : ByFirst taken Fine one FineOne)
    (xs whole : List ℕ) (i now left : ℕ) where
  pub goes-on : (behind : ℕ) → i < length xs → GoesOn taken Fine (drop i xs) now whole left
      → Leaves now (one (get_or xs i 0)) (FineOne (get_or xs i 0)) (Some behind) → GoesOn taken Fine (drop (i + 1) xs) behind whole left
  goes-on behind l h here o there =
      (subst (λ (r : List ℕ). GoesOn taken Fine r now whole left) (drop_more xs i 0 l) h) o
      (first (get_or xs i 0) (drop (i + 1) xs) now o (both now behind _ _ _ _ o here there))

  pub ends-there : i < length xs → GoesOn taken Fine (drop i xs) now whole left
      → Leaves now (one (get_or xs i 0)) (FineOne (get_or xs i 0)) None → Leaves left (taken whole) (Fine whole) None
  ends-there l h here =
      (subst (λ (r : List ℕ). GoesOn taken Fine r now whole left) (drop_more xs i 0 l) h) None
      (first (get_or xs i 0) (drop (i + 1) xs) now None (first-fails now _ _ _ _ here))

  pub at-end : length xs ≤ i → GoesOn taken Fine (drop i xs) now whole left → Leaves now (taken []) (Fine []) (Some now)
      → Leaves left (taken whole) (Fine whole) (Some now)
  at-end l h none = (subst (λ (r : List ℕ). GoesOn taken Fine r now whole left) (drop_all i xs l) h) (Some now) none

-- the expressions of numbers
abbrev pub args_signs : (ℕ → Expr) → List ℕ → ℕ
args_signs at ks = exprs_signs (map at ks)

abbrev pub AreArgsFine : (room : ℕ) → (ℕ → Expr) → List ℕ → Type 0
AreArgsFine room at ks = AllByRecursion HasSmall (map at ks) × (exprs_opens (map at ks) ≤ room)

abbrev pub IsArgFine : (room : ℕ) → (ℕ → Expr) → ℕ → Type 0
IsArgFine room at k = HasSmall (at k) × (expr_opens (at k) ≤ room)

pub args-first : (room : ℕ) (at : ℕ → Expr) → ByFirst (args_signs at) (AreArgsFine room at) (λ k. expr_signs (at k)) (IsArgFine room at)
args-first room at k ks left o h =
    Leaves-same left (expr_signs (at k) + args_signs at ks) (IsArgFine room at k × AreArgsFine room at ks) (AreArgsFine room at (k ∷ ks)) o
    (λ q. ((q.0.0, q.1.0), omega (arith, q.0.1, q.1.1))) (λ q. ((q.0.0, omega (arith, q.1)), (q.0.1, omega (arith, q.1)))) h

-- no expressions
pub no-args : (room left : ℕ) → Leaves left 0 (⊤ × (0 ≤ room)) (Some left)
no-args room left = (omega arith, (tt, omega arith))

-- the statements of numbers
abbrev pub numbers_names : (ℕ → Stmt) → List ℕ → ℕ
numbers_names at ks = block_names (block_over at ks)

abbrev pub AreFine : (room : ℕ) → (ℕ → Stmt) → List ℕ → Type 0
AreFine room at ks = HoldsInBlock IsFine (block_over at ks) × (block_opens (block_over at ks) ≤ room)

abbrev pub IsOneFine : (room : ℕ) → (ℕ → Stmt) → ℕ → Type 0
IsOneFine room at k = IsStmtFine (at k) × (stmt_opens (at k) ≤ room)

by-statement : (room : ℕ) (s : Stmt) (b : Block) (left : ℕ) (o : Option ℕ)
    → Leaves left (stmt_names s + block_names b) ((IsStmtFine s × (stmt_opens s ≤ room)) × (HoldsInBlock IsFine b × (block_opens b ≤ room))) o
    → Leaves left (block_names (next s b)) (HoldsInBlock IsFine (next s b) × (block_opens (next s b) ≤ room)) o
by-statement room (stmt line k) b left o h =
    Leaves-same left (block_names (next (stmt line k) b))
    ((IsStmtFine (stmt line k) × (stmt_opens (stmt line k) ≤ room)) × (HoldsInBlock IsFine b × (block_opens b ≤ room)))
    (HoldsInBlock IsFine (next (stmt line k) b) × (block_opens (next (stmt line k) b) ≤ room)) o
    (λ q. ((q.0.0, q.1.0), omega (arith, q.0.1, q.1.1))) (λ q. ((q.0.0, omega (arith, q.1)), (q.0.1, omega (arith, q.1)))) h

pub block-first : (room : ℕ) (at : ℕ → Stmt) → ByFirst (numbers_names at) (AreFine room at) (λ k. stmt_names (at k)) (IsOneFine room at)
block-first room at k ks left o h = by-statement room (at k) (block_over at ks) left o h
