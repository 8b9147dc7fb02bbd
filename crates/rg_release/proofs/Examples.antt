-- What a release asks for and which regions go, on a small heap (docs/architecture.md, "Release").
use Rattle.std.proofs.Common.{◌≡◌, ℕ, ◌⊎◌, inl, inr, zero, suc, List, [], ◌∷◌, Option, Some, None, refl, ◌∙◌, arith}
use Rattle.rg_base.specs.declared.object.Label.TheVariants.{Region}
use Rattle.rg_base.specs.declared.words.Manager.TheVariants.{Trace}
use Rattle.rg_base.specs.declared.value.Word.{Word}
use Rattle.rg_base.specs.declared.value.Word.TheVariants.{Nil, Slot}
use Rattle.rg_cells.specs.declared.cell.Body.{Body}
use Rattle.rg_cells.specs.Table.{Heap, field_at}
use Rattle.rg_regions.specs.Table.{Record, RegionTable, HasNumber, Chained}
use Rattle.rg_regions.specs.Reach.{LiesIn}
use Rattle.rg_regions.specs.Grove.{Parent, Above, direct, further}
use Rattle.rg_release.specs.Released.{Unowned, BelowOne}

-- Five regions with a cell each, at the slot and under the key of the region's number: region 0 owns region 3, and region 1
-- owns region 2. Regions 1 and 4 are chained.
abbrev cell : (number : ℕ) → Word → Option (Option Body)
cell n w = Some (Some (record { class = 0; label = Region n; serial = n; fields = w ∷ [] }))

abbrev small : Heap
small = record { slots = cell 0 (Slot 3) ∷ cell 1 (Slot 2) ∷ cell 2 Nil ∷ cell 3 Nil ∷ cell 4 Nil ∷ []; next = 5 }

abbrev region : (number : ℕ) → Option Record
region n = Some (record { number = n; manager = Trace; members = n ∷ []; bridge = Some n; room = 0 })

abbrev table : RegionTable
table = record {
  records = region 0 ∷ region 1 ∷ region 2 ∷ region 3 ∷ region 4 ∷ [];
  links = None ∷ Some 4 ∷ None ∷ None ∷ None ∷ [];
  next = 5;
}

abbrev heads : List ℕ
heads = 1 ∷ 4 ∷ []

chained : Chained table.links (Some 1) heads
chained = (refl, (λ m. elim m [ inl e ↦ cc | inr n ↦ n ]), (refl, (λ n. n), refl))

-- each cell lies in the region of its slot's number, and each key has its own number
its_own : (q s : ℕ) → LiesIn small q s → q ≡ s
its_own q zero l = cc
its_own q (suc zero) l = cc
its_own q (suc (suc zero)) l = cc
its_own q (suc (suc (suc zero))) l = cc
its_own q (suc (suc (suc (suc zero)))) l = cc
its_own q (suc (suc (suc (suc (suc s))))) l = cc

numbered : (k n : ℕ) → HasNumber table k n → n ≡ k
numbered zero n h = cc
numbered (suc zero) n h = cc
numbered (suc (suc zero)) n h = cc
numbered (suc (suc (suc zero))) n h = cc
numbered (suc (suc (suc (suc zero)))) n h = cc
numbered (suc (suc (suc (suc (suc k))))) n h = cc

-- the two fields that lead to a cell
leads : (from k to : ℕ) → field_at small from k ≡ Some (Slot to) → ((from ≡ 0) × (to ≡ 3)) ⊎ ((from ≡ 1) × (to ≡ 2))
leads zero zero to f = inl (refl, cc)
leads zero (suc k) to f = cc
leads (suc zero) zero to f = inr (refl, cc)
leads (suc zero) (suc k) to f = cc
leads (suc (suc zero)) zero to f = cc
leads (suc (suc zero)) (suc k) to f = cc
leads (suc (suc (suc zero))) zero to f = cc
leads (suc (suc (suc zero))) (suc k) to f = cc
leads (suc (suc (suc (suc zero)))) zero to f = cc
leads (suc (suc (suc (suc zero)))) (suc k) to f = cc
leads (suc (suc (suc (suc (suc from))))) k to f = cc

parents : (p q : ℕ) → Parent small p q → ((p ≡ 0) × (q ≡ 3)) ⊎ ((p ≡ 1) × (q ≡ 2))
parents p q w = elim (leads w.from w.field w.to w.leads) [
  | inl e ↦ inl (its_own p w.from w.lies ∙ e.0, its_own q w.to w.child_has ∙ e.1)
  | inr e ↦ inr (its_own p w.from w.lies ∙ e.0, its_own q w.to w.child_has ∙ e.1)
]

above : (p q : ℕ) → Above small p q → ((p ≡ 0) × (q ≡ 3)) ⊎ ((p ≡ 1) × (q ≡ 2))
above p q (direct w) = parents p q w
above p q (further {q = m} a w) = elim (above p m a) [
  | inl e ↦ elim (parents m q w) [ inl f ↦ absurd (omega (arith, e.1, f.0)) | inr f ↦ absurd (omega (arith, e.1, f.0)) ]
  | inr e ↦ elim (parents m q w) [ inl f ↦ absurd (omega (arith, e.1, f.0)) | inr f ↦ absurd (omega (arith, e.1, f.0)) ]
]

-- the chained regions may be released; a region with an owner in another region may not, nor region 0
may : Unowned small table heads
may = record {
  there = λ k m. elim m [ inl e ↦ rw e (1, refl) | inr n ↦ elim n [ inl e ↦ rw e (4, refl) | inr f ↦ absurd f ] ];
  not_first = λ k m h.
      let n = numbered k 0 h in
      elim m [ inl e ↦ omega (arith, n, e) | inr o ↦ elim o [ inl e ↦ omega (arith, n, e) | inr f ↦ f ] ];
  alone = λ k q p s f to m h d l x i.
      let n = numbered k q h in
      let o = its_own q to i in
      elim (leads s f to x) [
        | inl u ↦ elim m [ inl e ↦ omega (arith, n, o, u.1, e) | inr y ↦ elim y [ inl e ↦ omega (arith, n, o, u.1, e) | inr z ↦ z ] ]
        | inr u ↦ elim m [ inl e ↦ omega (arith, n, o, u.1, e) | inr y ↦ elim y [ inl e ↦ omega (arith, n, o, u.1, e) | inr z ↦ z ] ]
      ];
}

not_owned : Unowned small table (2 ∷ []) → ⊥
not_owned u = u.alone 2 2 1 1 0 2 (inl refl) refl (λ e. cc) refl refl refl

not_first : Unowned small table (0 ∷ []) → ⊥
not_first u = u.not_first 0 (inl refl) refl

-- regions 1 and 4 go, and region 2 with region 1
one_goes : BelowOne small table heads 1
one_goes = record { key = 1; top = 1; one = inl refl; has = refl; below = inl refl }

four_goes : BelowOne small table heads 4
four_goes = record { key = 4; top = 4; one = inr (inl refl); has = refl; below = inl refl }

two_goes : BelowOne small table heads 2
two_goes =
    let down : Above small 1 2 = direct (record { differ = λ e. cc; from = 1; field = 0; to = 2; lies = refl; leads = refl; child_has = refl }) in
    record { key = 1; top = 1; one = inl refl; has = refl; below = inr ((2, refl), down) }

-- regions 0 and 3 stay
stays : (q : ℕ) → ((q ≡ 0) ⊎ (q ≡ 3)) → BelowOne small table heads q → ⊥
stays q d b =
    let n = numbered b.key b.top b.has in
    let top : (b.top ≡ 1) ⊎ (b.top ≡ 4) = elim (b.one) [ inl e ↦ inl (n ∙ e) | inr o ↦ elim o [ inl e ↦ inr (n ∙ e) | inr f ↦ absurd f ] ] in
    elim (b.below) [
      | inl e ↦ elim d [
        | inl z ↦ elim top [ inl y ↦ omega (arith, e, y, z) | inr y ↦ omega (arith, e, y, z) ]
        | inr z ↦ elim top [ inl y ↦ omega (arith, e, y, z) | inr y ↦ omega (arith, e, y, z) ]
      ]
      | inr a ↦ elim (above b.top q a.1) [
        | inl e ↦ elim top [ inl y ↦ omega (arith, e.0, y) | inr y ↦ omega (arith, e.0, y) ]
        | inr e ↦ elim d [ inl z ↦ omega (arith, e.1, z) | inr z ↦ omega (arith, e.1, z) ]
      ]
    ]
