-- Numbers that follow one another, as they are met (docs/architecture.md, "Cargo").
use Rattle.std.proofs.Common.{◌≡◌, ℕ, zero, suc, ◌+◌, ◌<◌, ◌≤◌, inl, inr, Bool as Truth, true, false, ◌||◌, if◌then◌else◌, cond, List, [], ◌∷◌}
use Rattle.std.proofs.Common.{◌++◌, Some, None, slice_get, refl, sym, ap, ◌∙◌, arith}
use Rattle.std.specs.Prelude.{nat_eq, not, ◌==◌}
use Rattle.std.specs.List.{list_any, position_or_len, range_with_len}
use Rattle.std.proofs.lemmas.Option.{same_Some}
use Rattle.std.proofs.lemmas.Bool.Decides.{eqb_tells}
use Rattle.indexmap.specs.IndexSet.{insert_key}
use Rattle.rg_cown.specs.Cargo.{named}
use Rattle.rg_cown.proofs.SoundParts.{less_or_not}

pub number-at : (b n a : ℕ) → a < n → slice_get (range_with_len b n) a ≡ Some (b + a)
number-at b zero a l = absurd (omega (arith, l))
number-at b (suc n) zero l = ap Some (omega arith)
number-at b (suc n) (suc a) l = number-at (b + 1) n a (omega (arith, l)) ∙ ap Some (omega arith)

-- a list from a number on is that number and the list behind it
any-behind : (b n x : ℕ) (t : Truth) → nat_eq x b ≡ t
    → list_any (nat_eq x) (range_with_len b (suc n)) ≡ t || list_any (nat_eq x) (range_with_len (b + 1) n)
any-behind b n x t e = ap (λ z. z || list_any (nat_eq x) (range_with_len (b + 1) n)) e

place-behind : (b n x : ℕ) (t : Truth) → nat_eq x b ≡ t → position_or_len (nat_eq x) (range_with_len b (suc n))
    ≡ cond {A = ℕ} (not t) (1 + position_or_len (nat_eq x) (range_with_len (b + 1) n)) 0
place-behind b n x t e = ap (λ z. cond {A = ℕ} (not z) (1 + position_or_len (nat_eq x) (range_with_len (b + 1) n)) 0) e

next : (m n : ℕ) → m ≡ n → 1 + m ≡ suc n
next m n e = omega (arith, e)

-- a number of such a list is met there again
record At (b n x k : ℕ) (met : Truth) : Type 0 where
  any : list_any (nat_eq x) (range_with_len b n) ≡ met
  place : position_or_len (nat_eq x) (range_with_len b n) ≡ k

stands : (b n a x : ℕ) → x ≡ b + a → a < n → At b n x a true
stands b zero a x e l = absurd (omega (arith, l))
stands b (suc n) zero x e l = elim (eqb_tells x b) [
  | inl t ↦ record { any = any-behind b n x true t.0; place = place-behind b n x true t.0 }
  | inr t ↦ absurd (t.1 (omega (arith, e)))
]
stands b (suc n) (suc a) x e l =
    let r = stands (b + 1) n a x (omega (arith, e)) (omega (arith, l)) in
    elim (eqb_tells x b) [
      | inl t ↦ let q = t.1 in absurd (omega (arith, e, q))
      | inr t ↦ record {
        any = any-behind b n x false t.0 ∙ r.any;
        place = place-behind b n x false t.0 ∙ next (position_or_len (nat_eq x) (range_with_len (b + 1) n)) a r.place;
      }
    ]

-- the number behind it isn't
lacks : (b n x : ℕ) → b + n ≤ x → At b n x n false
lacks b zero x l = record { any = refl; place = refl }
lacks b (suc n) x l =
    let r = lacks (b + 1) n x (omega (arith, l)) in
    elim (eqb_tells x b) [
      | inl t ↦ let q = t.1 in absurd (omega (arith, l, q))
      | inr t ↦ record {
        any = any-behind b n x false t.0 ∙ r.any;
        place = place-behind b n x false t.0 ∙ next (position_or_len (nat_eq x) (range_with_len (b + 1) n)) n r.place;
      }
    ]

one-more : (b n x : ℕ) → x ≡ b + n → range_with_len b n ++ x ∷ [] ≡ range_with_len b (suc n)
one-more b zero x e = let q : x ≡ b = omega (arith, e) in ap (λ z. z ∷ []) q
one-more b (suc n) x e = ap (λ zs. b ∷ zs) (one-more (b + 1) n x (omega (arith, e)))

-- A number that is named by the rule has its own place among them, and as many are met as the rule says.
pub record Met (b n a m x : ℕ) : Type 0 where
  pub keys : insert_key nat_eq (range_with_len b n) x ≡ range_with_len b m
  pub place : position_or_len (nat_eq x) (range_with_len b n) ≡ a

pub named-met : (b n a m x : ℕ) → named n a ≡ Some m → x ≡ b + a → Met b n a m x
named-met b n a m x e is = elim (less_or_not a n) [
  | inl t ↦
      let same = same_Some n m (sym (ap (λ z. if z then Some n else (if a == n then Some (suc n) else None)) t.0) ∙ e) in
      let r = stands b n a x is t.1 in
      record { keys = ap (λ z. if z then keys else keys ++ x ∷ []) r.any ∙ ap (range_with_len b) same; place = r.place }
  | inr t ↦ elim (eqb_tells a n) [
    | inl u ↦
        let f : named n a ≡ Some (suc n) = ap (λ z. if z then Some n else (if a == n then Some (suc n) else None)) t.0
        ∙ ap (λ z. if z then Some (suc n) else None) u.0 in
        let same = same_Some (suc n) m (sym f ∙ e) in
        let q = u.1 in
        let r = lacks b n x (omega (arith, is, q)) in
        record {
          keys = ap (λ z. if z then keys else keys ++ x ∷ []) r.any ∙ one-more b n x (omega (arith, is, q)) ∙ ap (range_with_len b) same;
          place = r.place ∙ sym q;
        }
    | inr u ↦
        let f : named n a ≡ None = ap (λ z. if z then Some n else (if a == n then Some (suc n) else None)) t.0
        ∙ ap (λ z. if z then Some (suc n) else None) u.0 in
        absurd (none-some (sym f ∙ e))
  ]
]
  where
    keys : List ℕ
    keys = range_with_len b n

    none-some : None ≡ Some m → ⊥
    none-some z = cc
