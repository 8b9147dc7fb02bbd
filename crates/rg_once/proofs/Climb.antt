-- From a region one comes to its parent, and no way up goes on for ever.
use Rattle.std.proofs.Common.{◌≡◌, ◌<◌, inl, inr, ℕ, zero, suc, List, [], ◌∷◌, length, refl, ap, subst, arith}
use Rattle.std.proofs.lemmas.Bool.{cases_lt as order}
use Rattle.rg_sound.proofs.Stores.Member.{In}
use Rattle.rg_cells.specs.Table.{Heap}
use Rattle.rg_regions.specs.Grove.{Above, Parent, direct, further}
use Rattle.rg_machine.proofs.Callers.ReachPath.{Distinct, no-longer}

-- the numbers below another one
abbrev upto : ℕ → List ℕ
upto zero = []
upto (suc n) = n ∷ upto n

in-upto : (n k : ℕ) → k < n → In k (upto n)
in-upto zero k less = absurd (omega (arith, less))
in-upto (suc n) k less = elim (order k n) [
  | inl lt ↦ inr (in-upto n k lt)
  | inr le ↦ inl (omega (arith, le, less))
]

length-upto : (n : ℕ) → length (upto n) ≡ n
length-upto zero = refl
length-upto (suc n) = ap suc (length-upto n)

above-more : (h : Heap) (p r n : ℕ) → Parent h p r → Above h r n → Above h p n
above-more h p r n parent (direct link) = further (direct parent) link
above-more h p r n parent (further {q = m} up link) = further (above-more h p r m parent up) link

module _ (h : Heap) (P : ℕ → Type 0) (n : ℕ) (less : (r : ℕ) → P r → r < n) (up : (r : ℕ) → P r → (p : ℕ) × P p × Parent h p r)
    (no_cycle : (r : ℕ) → Above h r r → ⊥) where
  -- regions that were left on so long a way up
  record Way (k : ℕ) : Type 0 where
    pub top : ℕ
    pub here : P top
    pub under : List ℕ
    pub count : length under ≡ k
    pub distinct : Distinct under
    pub below : (m : ℕ) → In m under → Above h top m
    pub small : (m : ℕ) → In m under → m < n

  further-up : (k : ℕ) → Way k → Way (suc k)
  further-up k c =
      let v = up c.top c.here in
      record {
        top = v.0;
        here = v.1;
        under = c.top ∷ c.under;
        count = ap suc c.count;
        distinct = (λ i. no_cycle c.top (c.below c.top i), c.distinct);
        below = λ m i. elim i [
          | inl e ↦ subst (λ j. Above h v.0 j) e (direct v.2)
          | inr on ↦ above-more h v.0 c.top m v.2 (c.below m on)
        ];
        small = λ m i. elim i [ inl e ↦ subst (λ j. j < n) e (less c.top c.here) | inr on ↦ c.small m on ];
      }

  way : (r : ℕ) → P r → (k : ℕ) → Way k
  way r x zero = record {
    top = r;
    here = x;
    under = [];
    count = refl;
    distinct = tt;
    below = λ m i. absurd i;
    small = λ m i. absurd i;
  }
  way r x (suc k) = further-up k (way r x k)

  pub no-climb : (r : ℕ) → P r → ⊥
  no-climb r x =
      let c = way r x (suc n) in
      let most = no-longer c.under (upto n) c.distinct (λ m i. in-upto n m (c.small m i)) in
      let count = c.count in
      let size = length-upto n in
      omega (arith, most, count, size)
