-- A grove of two regions and a frozen cell: region 0 owns region 1 by its bridge, and leads to the frozen cell.
use Rattle.std.proofs.Common.{◌≡◌, ◌≢◌, ℕ, zero, suc, List, [], ◌∷◌, Option, Some, None, slice_get, refl, sym, ◌∙◌, subst, inl, inr, arith}
use Rattle.rg_base.specs.declared.object.Label.{Label}
use Rattle.rg_base.specs.declared.object.Label.TheVariants.{Region, Frozen}
use Rattle.rg_base.specs.declared.words.Manager.TheVariants.{Trace, Count}
use Rattle.rg_cells.specs.declared.cell.Body.{Body}
use Rattle.rg_base.specs.declared.value.Word.{Word}
use Rattle.rg_base.specs.declared.value.Word.TheVariants.{Slot}
use Rattle.rg_cells.specs.Table.{Table, label_at, field_at, mark_at}
use Rattle.rg_regions.specs.Table.{Record, RegionTable, record_at, HasNumber, IsBridge}
use Rattle.rg_regions.specs.Reach.{LiesIn}
use Rattle.rg_regions.specs.Grove.{Above, direct, further, Members, referrers, Grove}

abbrev cell : Label → (serial : ℕ) → List Word → Option (Option Body)
cell l n ws = Some (Some (record { class = 0; label = l; serial = n; fields = ws }))

abbrev pair : Table
pair = record {
  heap = record {
    slots = cell (Region 0) 0 (Slot 1 ∷ Slot 2 ∷ []) ∷ cell (Region 1) 1 [] ∷ cell Frozen 2 [] ∷ [];
    next = 3;
  };
  marks = 0 ∷ 0 ∷ 0 ∷ [];
  links = None ∷ None ∷ None ∷ [];
}

abbrev first : Record
first = record { number = 0; manager = Trace; members = 0 ∷ []; bridge = None; room = 0 }

abbrev second : Record
second = record { number = 1; manager = Count; members = 1 ∷ []; bridge = Some 1; room = 0 }

abbrev two : RegionTable
two = record { records = Some first ∷ Some second ∷ []; links = None ∷ None ∷ []; next = 2 }

-- the cell at slot 0 is region 0's, and that at slot 1 region 1's
data Cell (r s : ℕ) : Type 0 where
  of_first : r ≡ 0 → s ≡ 0 → Cell r s
  of_second : r ≡ 1 → s ≡ 1 → Cell r s

cell_is : (r s : ℕ) → LiesIn pair.heap r s → Cell r s
cell_is r zero e = of_first (let q : Some (Region 0) ≡ Some (Region r) = e in cc) refl
cell_is r (suc zero) e = of_second (let q : Some (Region 1) ≡ Some (Region r) = e in cc) refl
cell_is r (suc (suc zero)) e = absurd (let q : Some Frozen ≡ Some (Region r) = e in cc)
cell_is r (suc (suc (suc s))) e = absurd cc

-- the two fields
data Field (s k to : ℕ) : Type 0 where
  to_bridge : s ≡ 0 → k ≡ 0 → to ≡ 1 → Field s k to
  to_frozen : s ≡ 0 → k ≡ 1 → to ≡ 2 → Field s k to

field_is : (s k to : ℕ) → field_at pair.heap s k ≡ Some (Slot to) → Field s k to
field_is zero zero to e = to_bridge refl refl (let q : Some (Slot 1) ≡ Some (Slot to) = e in cc)
field_is zero (suc zero) to e = to_frozen refl refl (let q : Some (Slot 2) ≡ Some (Slot to) = e in cc)
field_is zero (suc (suc k)) to e = absurd cc
field_is (suc zero) k to e = absurd cc
field_is (suc (suc zero)) k to e = absurd cc
field_is (suc (suc (suc s))) k to e = absurd cc

-- a region's number is its slot's, and none is above 1
lies_at : (r s : ℕ) → LiesIn pair.heap r s → r ≡ s
lies_at r s l = elim (cell_is r s l) [ of_first a b ↦ a ∙ sym b | of_second a b ↦ a ∙ sym b ]

not_two : (r s : ℕ) → s ≡ 2 → LiesIn pair.heap r s → ⊥
not_two r s e l = elim (cell_is r s l) [ of_first a b ↦ absurd (omega (arith, e, b)) | of_second a b ↦ absurd (omega (arith, e, b)) ]

-- what leads into another region is field 0 of slot 0, and leads to slot 1
into : (p q s k to : ℕ) → p ≢ q → LiesIn pair.heap p s → field_at pair.heap s k ≡ Some (Slot to) → LiesIn pair.heap q to
    → (s ≡ 0) × (k ≡ 0) × (p ≡ 0) × (q ≡ 1)
into p q s k to d l f g = elim (field_is s k to f) [
  | to_bridge a b c ↦ (a, b, lies_at p s l ∙ a, lies_at q to g ∙ c)
  | to_frozen a b c ↦ absurd (not_two q to c g)
]

above_is : (p r : ℕ) → Above pair.heap p r → (p ≡ 0) × (r ≡ 1)
above_is p r (direct w) =
    let i = into p r w.from w.field w.to w.differ w.lies w.leads w.child_has in
    (i.2, i.3)
above_is p r (further {q = m} a w) =
    let i = into m r w.from w.field w.to w.differ w.lies w.leads w.child_has in
    absurd (omega (arith, (above_is p m a).1, i.2))

-- a key is its region's number
key_is : (key n : ℕ) → HasNumber two key n → key ≡ n
key_is zero n e = let q : Some 0 ≡ Some n = e in cc
key_is (suc zero) n e = let q : Some 1 ≡ Some n = e in cc
key_is (suc (suc key)) n e = absurd cc

-- the records of the table
data Row (key : ℕ) (r : Record) : Type 0 where
  is_first : key ≡ 0 → first ≡ r → Row key r
  is_second : key ≡ 1 → second ≡ r → Row key r

row_is : (key : ℕ) (r : Record) → record_at two key ≡ Some r → Row key r
row_is zero r e = is_first refl (let q : Some first ≡ Some r = e in cc)
row_is (suc zero) r e = is_second refl (let q : Some second ≡ Some r = e in cc)
row_is (suc (suc key)) r e = absurd cc

one_at : (n i s : ℕ) → slice_get (n ∷ []) i ≡ Some s → (i ≡ 0) × (n ≡ s)
one_at n zero s e = (refl, cc)
one_at n (suc i) s e = absurd cc

alone : (n : ℕ) → LiesIn pair.heap n n → Members pair.heap n (n ∷ [])
alone n l = record {
  lie = λ i s e. subst (λ x. LiesIn pair.heap n x) (one_at n i s e).1 l;
  all = λ s m. (0, subst (λ x. slice_get (n ∷ []) 0 ≡ Some x) (lies_at n s m) refl);
  once = λ i j s p q. (one_at n i s p).0 ∙ sym (one_at n j s q).0;
}

grown : Grove pair two
grown = record {
  numbers = λ key other n p q. key_is key n p ∙ sym (key_is other n q);
  members = λ key r e. elim (row_is key r e) [
    | is_first k q ↦ subst (λ (x : Record). Members pair.heap x.number x.members) q (alone 0 refl)
    | is_second k q ↦ subst (λ (x : Record). Members pair.heap x.number x.members) q (alone 1 refl)
  ];
  bridges = λ key s r e b. elim (row_is key r e) [
    | is_first k q ↦ let v : None ≡ Some s = subst (λ (x : Record). x.bridge ≡ Some s) (sym q) b in cc
    | is_second k q ↦
        let v : Some 1 ≡ Some s = subst (λ (x : Record). x.bridge ≡ Some s) (sym q) b in
        let w : 1 ≡ s = cc in
        subst (λ (x : Record). LiesIn pair.heap x.number s) q (subst (λ x. LiesIn pair.heap 1 x) w refl)
  ];
  labels = λ r s l. elim (cell_is r s l) [
    | of_first a b ↦ (0, subst (λ x. HasNumber two 0 x) (sym a) refl)
    | of_second a b ↦ (1, subst (λ x. HasNumber two 1 x) (sym a) refl)
  ];
  frozen = λ s k to l f. elim (field_is s k to f) [
    | to_bridge a b c ↦ let v : Some (Region 0) ≡ Some Frozen = subst (λ x. label_at pair.heap x ≡ Some Frozen) a l in cc
    | to_frozen a b c ↦ subst (λ x. label_at pair.heap x ≡ Some Frozen) (sym c) refl
  ];
  fields = λ r s k to l f. elim (field_is s k to f) [
    | to_bridge a b c ↦ inr (inr (
      1,
      (λ e. absurd (omega (arith, e, lies_at r s l, a))),
      subst (λ x. LiesIn pair.heap 1 x) (sym c) refl,
      subst (λ x. IsBridge two 1 x) (sym c) (1, second, refl, refl, refl),
    ))
    | to_frozen a b c ↦ inl (subst (λ x. label_at pair.heap x ≡ Some Frozen) (sym c) refl)
  ];
  one_in = λ q p s k to p₂ s₂ k₂ to₂ d l f g d₂ l₂ f₂ g₂.
      let i = into p q s k to d l f g in
      let j = into p₂ q s₂ k₂ to₂ d₂ l₂ f₂ g₂ in
      (i.0 ∙ sym j.0, i.1 ∙ sym j.1);
  none_into_first = λ p s k to d l f g. d (into p 0 s k to d l f g).2;
  no_cycle = λ r a. let i = above_is r r a in absurd (omega (arith, i.0, i.1));
  counts = λ key s r e m l. elim (row_is key r e) [
    | is_first k q ↦ let v : Trace ≡ Count = subst (λ (x : Record). x.manager ≡ Count) (sym q) m in cc
    | is_second k q ↦
        let n : 1 ≡ s = lies_at 1 s (subst (λ (x : Record). LiesIn pair.heap x.number s) (sym q) l) in
        subst (λ (x : Record). mark_at pair s ≡ referrers pair.heap x.number s) q
        (subst (λ x. mark_at pair x ≡ referrers pair.heap 1 x) n refl)
  ];
  unmarked = λ s d. unmarked_at s;
}
  where
    unmarked_at : (s : ℕ) → mark_at pair s ≡ 0
    unmarked_at zero = refl
    unmarked_at (suc zero) = refl
    unmarked_at (suc (suc zero)) = refl
    unmarked_at (suc (suc (suc s))) = refl
