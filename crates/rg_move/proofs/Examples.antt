-- What freeze and merge ask for, and which regions freeze, on a small heap (docs/architecture.md, "Freeze and merge").
use Rattle.std.proofs.Common.{◌≡◌, ℕ, ◌⊎◌, inl, inr, zero, suc, [], ◌∷◌, Option, Some, None, refl, subst, arith}
use Rattle.rg_base.specs.declared.object.Label.TheVariants.{Region}
use Rattle.rg_base.specs.declared.words.Manager.TheVariants.{Trace}
use Rattle.rg_base.specs.declared.value.Word.{Word}
use Rattle.rg_base.specs.declared.value.Word.TheVariants.{Nil, Slot}
use Rattle.rg_cells.specs.declared.cell.Body.{Body}
use Rattle.rg_cells.specs.Table.{Heap, field_at}
use Rattle.rg_regions.specs.Table.{Record, RegionTable, HasNumber}
use Rattle.rg_regions.specs.Reach.{LiesIn}
use Rattle.rg_regions.specs.Grove.{Above, direct, further}
use Rattle.rg_move.specs.Closed.{Closed, BelowKey}
use Rattle.rg_move.specs.Merged.{CanTake}

-- Four regions with a cell each, at the slot and under the key of the region's number. Region 1 owns region 2, which owns
-- region 3.
abbrev cell : (number : ℕ) → Word → Option (Option Body)
cell n w = Some (Some (record { class = 0; label = Region n; serial = n; fields = w ∷ [] }))

abbrev small : Heap
small = record { slots = cell 0 Nil ∷ cell 1 (Slot 2) ∷ cell 2 (Slot 3) ∷ cell 3 Nil ∷ []; next = 4 }

abbrev region : (number : ℕ) → Option Record
region n = Some (record { number = n; manager = Trace; members = n ∷ []; bridge = Some n; room = 0 })

abbrev table : RegionTable
table = record {
  records = region 0 ∷ region 1 ∷ region 2 ∷ region 3 ∷ [];
  links = None ∷ None ∷ None ∷ None ∷ [];
  next
      = 4;
}

-- each cell lies in the region of its slot's number, and each key has its own number
its_own : (q s : ℕ) → LiesIn small q s → q ≡ s
its_own q zero l = cc
its_own q (suc zero) l = cc
its_own q (suc (suc zero)) l = cc
its_own q (suc (suc (suc zero))) l = cc
its_own q (suc (suc (suc (suc s)))) l = cc

numbered : (k n : ℕ) → HasNumber table k n → n ≡ k
numbered zero n h = cc
numbered (suc zero) n h = cc
numbered (suc (suc zero)) n h = cc
numbered (suc (suc (suc zero))) n h = cc
numbered (suc (suc (suc (suc k)))) n h = cc

-- the two fields that lead to a cell
leads : (from k to : ℕ) → field_at small from k ≡ Some (Slot to) → ((from ≡ 1) × (to ≡ 2)) ⊎ ((from ≡ 2) × (to ≡ 3))
leads zero zero to f = cc
leads zero (suc k) to f = cc
leads (suc zero) zero to f = inl (refl, cc)
leads (suc zero) (suc k) to f = cc
leads (suc (suc zero)) zero to f = inr (refl, cc)
leads (suc (suc zero)) (suc k) to f = cc
leads (suc (suc (suc zero))) zero to f = cc
leads (suc (suc (suc zero))) (suc k) to f = cc
leads (suc (suc (suc (suc from)))) k to f = cc

-- region 1 may be frozen or merged; a region with an owner in another region may not, nor region 0
one_closed : Closed small table 1
one_closed = record {
  number = 1;
  has = refl;
  not_first = λ e. cc;
  alone = λ p s k to d l f i.
      let o = its_own 1 to i in
      elim (leads s k to f) [ inl u ↦ omega (arith, o, u.1) | inr u ↦ omega (arith, o, u.1) ];
}

two_not_closed : Closed small table 2 → ⊥
two_not_closed o =
    let n = numbered 2 o.number o.has in
    o.alone 1 1 0 2 (λ e. omega (arith, n, e)) refl refl (rw n refl)

first_not_closed : Closed small table 0 → ⊥
first_not_closed o = o.not_first (numbered 0 o.number o.has)

-- regions 1, 2 and 3 freeze
down : Above small 1 2
down = direct (record { differ = λ e. cc; from = 1; field = 0; to = 2; lies = refl; leads = refl; child_has = refl })

one_freezes : BelowKey small table 1 1
one_freezes = (1, refl, inl refl)

two_freezes : BelowKey small table 1 2
two_freezes = (1, refl, inr ((2, refl), down))

three_freezes : BelowKey small table 1 3
three_freezes = (
  1,
  refl,
  inr (
    (3, refl),
    further down
        (record { differ = λ e. cc; from = 2; field = 0; to = 3; lies = refl; leads = refl; child_has = refl }),
  ),
)

-- nothing leads into region 0
into_first : (p : ℕ) → Above small p 0 → ⊥
into_first p (direct w) =
    let o = its_own 0 w.to w.child_has in
    elim (leads w.from w.field w.to w.leads) [ inl u ↦ omega (arith, o, u.1) | inr u ↦ omega (arith, o, u.1) ]
into_first p (further {q = m} a w) =
    let o = its_own 0 w.to w.child_has in
    elim (leads w.from w.field w.to w.leads) [ inl u ↦ omega (arith, o, u.1) | inr u ↦ omega (arith, o, u.1) ]

-- region 0 stays, and it can take the cells of region 1; region 3, which is beneath, can't, nor can region 1 itself
first_stays : BelowKey small table 1 0 → ⊥
first_stays b =
    let n = numbered 1 b.0 b.1 in
    elim (b.2) [ inl e ↦ omega (arith, n, e) | inr a ↦ into_first b.0 a.1 ]

first_takes : CanTake small table 1 0
first_takes = record {
  there = refl;
  differ = λ e. cc;
  above = λ q h b. let P : ℕ → Type 0 = λ z. BelowKey small table 1 z in first_stays (subst P (numbered 0 q h) b);
}

three_takes_not : CanTake small table 1 3 → ⊥
three_takes_not w = w.above 3 refl three_freezes

itself_takes_not : CanTake small table 1 1 → ⊥
itself_takes_not w = w.differ refl
