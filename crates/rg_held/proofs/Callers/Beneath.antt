-- The regions beneath others, by labels alone. For callers.
use Rattle.std.proofs.Common.{◌≡◌, ℕ, zero, suc, ◌<◌, ◌≤◌, ◌⊎◌, inl, inr, true, false, Bool as Truth, List, Some}
use Rattle.std.proofs.Common.{refl, sym, subst, arith}
use Rattle.std.specs.Prelude.{flat_map}
use Rattle.rg_base.specs.declared.object.Seen.{Seen}
use Rattle.rg_rules.specs.Regions.{region_at, among, joined_with}
use Rattle.rg_sound.proofs.Stores.Member.{In, among-in, among-not, joined-old, joined-new, joined-back, missing, counted, counted-most}
use Rattle.rg_sound.proofs.Stores.Member.{counted-rises}
use Rattle.rg_stack.specs.Effects.{led_by_labels, beneath_by_labels}
use Rattle.rg_stack.proofs.Callers.Label.{LeadsTo, labels_back, labels_in, fields_in, flat_back, flat_in}

-- a field of an object of the one region leads into the other
abbrev pub Link : List Seen → ℕ → ℕ → Type 0
Link store p r = LeadsTo store store p r

-- links from these regions lead to no other
abbrev pub AllLinks : List Seen → List ℕ → Type 0
AllLinks store rs = (p r : ℕ) → In p rs → Link store p r → In r rs

module _ (store : List Seen) where
  -- the regions to which these lead
  abbrev more : List ℕ → List ℕ
  more rs = flat_map (led_by_labels store store) rs

  more-in : (rs : List ℕ) (p r : ℕ) → In p rs → Link store p r → In r (more rs)
  more-in rs p r i h = flat_in (led_by_labels store store) rs p r i
      (labels_in store store p r h.object h.holder h.there h.lies (fields_in store h.holder.fields r h.field h.address h.value h.leads))

  pub more-back : (rs : List ℕ) (r : ℕ) → In r (more rs) → (p : ℕ) × In p rs × Link store p r
  more-back rs r i = let h = flat_back (led_by_labels store store) rs r i in (h.0, h.1, labels_back store store h.0 r h.2)

  -- the last link at the end
  beneath-last : (k : ℕ) (rs : List ℕ) → beneath_by_labels store (suc k) rs
      ≡ joined_with (beneath_by_labels store k rs) (more (beneath_by_labels store k rs))
  beneath-last zero rs = refl
  beneath-last (suc k) rs = beneath-last k (joined_with rs (more rs))

  closed-if : (rs : List ℕ) → ((r : ℕ) → In r (more rs) → In r rs) → AllLinks store rs
  closed-if rs f p r i h = f r (more-in rs p r i h)

  closed-joined : (rs : List ℕ) → AllLinks store rs → AllLinks store (joined_with rs (more rs))
  closed-joined rs c p r i h = joined-old rs (more rs) r (c p r (elim (joined-back rs (more rs) p i) [
    | inl here ↦ here
    | inr led ↦ (let l = more-back rs p led in c l.0 p l.1 l.2)
  ]) h)

  module _ (bound : ℕ) (given : (b r : ℕ) → region_at store b ≡ Some r → r < bound) where
    more-bound : (rs : List ℕ) (r : ℕ) → In r (more rs) → r < bound
    more-bound rs r i = let l = more-back rs r i in given l.2.address r l.2.leads

    grows : (k : ℕ) (rs : List ℕ) → AllLinks store (beneath_by_labels store k rs) ⊎ (k ≤ counted bound (beneath_by_labels store k rs))
    grows zero rs = inr (omega arith)
    grows (suc k) rs =
        let P : List ℕ → Type 0 = λ q. AllLinks store q ⊎ (suc k ≤ counted bound q) in
        subst P (sym (beneath-last k rs)) (by (beneath_by_labels store k rs) (grows k rs))
      where
        by : (now : List ℕ) → AllLinks store now ⊎ (k ≤ counted bound now) →
            AllLinks store (joined_with now (more now)) ⊎ (suc k ≤ counted bound (joined_with now (more now)))
        by now (inl c) = inl (closed-joined now c)
        by now (inr l) = elim (missing now (more now)) [
          | inl all ↦ inl (closed-joined now (closed-if now all))
          | inr m ↦
              (let rise = counted-rises bound now (joined_with now (more now)) (λ n i. joined-old now (more now) n i) m.0
              (more-bound now m.0 m.1) m.2 (joined-new now (more now) m.0 m.1) in inr (omega (arith, l, rise)))
        ]

    -- as many links as there are numbers are enough
    pub beneath-links : (rs : List ℕ) → AllLinks store (beneath_by_labels store bound rs)
    beneath-links rs = by (beneath_by_labels store bound rs) (grows bound rs)
      where
        by : (now : List ℕ) → AllLinks store now ⊎ (bound ≤ counted bound now) → AllLinks store now
        by now (inl c) = c
        by now (inr l) = elim (missing now (more now)) [
          | inl all ↦ closed-if now all
          | inr m ↦
              (let rise = counted-rises bound now (joined_with now (more now)) (λ n i. joined-old now (more now) n i) m.0
              (more-bound now m.0 m.1) m.2 (joined-new now (more now) m.0 m.1) in
              let most = counted-most bound (joined_with now (more now)) in absurd (omega (arith, l, rise, most)))
        ]

  pub beneath-first : (k : ℕ) (rs : List ℕ) (r : ℕ) → In r rs → In r (beneath_by_labels store k rs)
  beneath-first zero rs r i = i
  beneath-first (suc k) rs r i = beneath-first k (joined_with rs (more rs)) r (joined-old rs (more rs) r i)

  -- what holds of the first, and of what a link leads to, holds of all
  pub beneath-all : (P : ℕ → Type 0) (rs : List ℕ) → ((r : ℕ) → In r rs → P r) → ((p r : ℕ) → P p → Link store p r → P r)
      → (k : ℕ) (r : ℕ) → In r (beneath_by_labels store k rs) → P r
  beneath-all P rs first next zero r i = first r i
  beneath-all P rs first next (suc k) r i =
      beneath-all P (joined_with rs (more rs)) (λ q j. elim (joined-back rs (more rs) q j) [
        | inl old ↦ first q old
        | inr new ↦ (let l = more-back rs q new in next l.0 q (first l.0 l.1) l.2)
      ]) next k r i

  -- each is one of the first, or another one of them has a link to it
  pub beneath-from : (k : ℕ) (rs : List ℕ) (r : ℕ) → In r (beneath_by_labels store k rs)
      → In r rs ⊎ ((p : ℕ) × In p (beneath_by_labels store k rs) × Link store p r × (p ≡ r → ⊥))
  beneath-from zero rs r i = inl i
  beneath-from (suc k) rs r i =
      let P : List ℕ → Type 0 = λ q. In r q in
      let Q : List ℕ → Type 0 = λ q. In r rs ⊎ ((p : ℕ) × In p q × Link store p r × (p ≡ r → ⊥)) in
      subst Q (sym (beneath-last k rs)) (by (beneath_by_labels store k rs) (beneath-from k rs r) (subst P (beneath-last k rs) i))
    where
      Found : List ℕ → Type 0
      Found q = In r rs ⊎ ((p : ℕ) × In p q × Link store p r × (p ≡ r → ⊥))

      by : (now : List ℕ) → (In r now → Found now) → In r (joined_with now (more now)) → Found (joined_with now (more now))
      by now before j = split (among now r) refl
        where
          further : Found now → Found (joined_with now (more now))
          further (inl start) = inl start
          further (inr q) = inr (q.0, joined-old now (more now) q.0 q.1, q.2, q.3)

          split : (b : Truth) → among now r ≡ b → Found (joined_with now (more now))
          split true e = further (before (among-in now r e))
          split false e = elim (joined-back now (more now) r j) [
            | inl here ↦ further (before here)
            | inr led ↦
                (let l = more-back now r led in
                inr (l.0, joined-old now (more now) l.0 l.1, l.2, λ same. among-not now r e (subst (λ q. In q now) same l.1)))
          ]
