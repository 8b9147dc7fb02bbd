-- A region comes with one cell, its bridge: the forest stays one (docs/architecture.md, "Regions").
use Rattle.std.proofs.Common.{◌≡◌, ◌≢◌, ℕ, zero, suc, Bool, false, true, cond, List, [], ◌∷◌, Some, None, refl, ap, sym, ◌∙◌}
use Rattle.std.proofs.Common.{subst, ◌⊎◌, inl, inr, option_map, option_and_then, slice_get, count_by}
use Rattle.std.proofs.lemmas.Bool.{cases_eq}
use Rattle.std.proofs.lemmas.Bool.Decides.{eqb_tells}
use Rattle.std.proofs.lemmas.Option.{same_Some}
use Rattle.rg_base.specs.declared.object.Label.TheVariants.{Region, Frozen}
use Rattle.rg_base.specs.declared.value.Word.{Word}
use Rattle.rg_base.specs.declared.value.Word.TheVariants.{Nil, Int, Bool as Truth, Slot}
use Rattle.rg_cells.specs.declared.cell.Body.{Body}
use Rattle.rg_cells.specs.Table.{Table, Made, body_at, field_at, label_at, mark_at}
use Rattle.rg_regions.specs.Table.{Record, RegionTable, record_at, HasNumber, IsBridge}
use Rattle.rg_regions.specs.Reach.{LiesIn, belongs}
use Rattle.rg_regions.specs.Grove.{Grove, Members, Parent, Above, direct, further, referrers, leads_to}
use Rattle.rg_regions.proofs.Callers.Told.{one_region, lies_or_not, number_of}
use Rattle.rg_regions.proofs.Callers.Fewer.{total_alike, belongs_not, weight, weighs_none, parent_by}
use Rattle.rg_regions.proofs.Callers.Beside.{Beside, beside, not_to, leads_on}

-- a region with a bridge at that slot, not region 0, into which no field of another region's cell leads
pub record OwnedByNone (c : Table) (t : RegionTable) (to : ℕ) : Type 0 where
  pub number : ℕ
  pub not_first : number ≢ 0
  pub lies : LiesIn c.heap number to
  pub bridge : IsBridge t number to
  pub alone : (p s k x : ℕ) → p ≢ number → LiesIn c.heap p s → field_at c.heap s k ≡ Some (Slot x) → LiesIn c.heap number x → ⊥

-- What comes: a cell at a slot that wasn't held, and a region under a key without one, with a number that none has. The cell is
-- the region's one member and its bridge, and its fields lead to frozen cells and to bridges of regions that had no owner.
pub record RegionComes (c : Table) (t : RegionTable) (cells : Table) (regions : RegionTable) (key slot : ℕ) (rec : Record) (b : Body) : Type 0 where
  pub vacant : body_at c.heap slot ≡ None
  pub made : Made c cells slot b
  pub free : record_at t key ≡ None
  pub is : record_at regions key ≡ Some rec
  pub others : (k : ℕ) → k ≢ key → record_at regions k ≡ record_at t k
  pub fresh : (k : ℕ) → HasNumber t k rec.number → ⊥
  pub label : b.label ≡ Region rec.number
  pub members : rec.members ≡ slot ∷ []
  pub bridge : rec.bridge ≡ Some slot
  pub leads : (k to : ℕ) → slice_get b.fields k ≡ Some (Slot to) → (label_at c.heap to ≡ Some Frozen) ⊎ OwnedByNone c t to
  pub once : (j k q x y : ℕ) → slice_get b.fields j ≡ Some (Slot x) → slice_get b.fields k ≡ Some (Slot y) →
      LiesIn c.heap q x → LiesIn c.heap q y → j ≡ k

single : (slot i s : ℕ) → slice_get (slot ∷ []) i ≡ Some s → (i ≡ 0) × (s ≡ slot)
single slot zero s e = (refl, same_Some s slot (sym e))
single slot (suc i) s e = cc

-- words none of which leads to a slot
pub none_leads : (s : ℕ) (ws : List Word) → ((k : ℕ) → slice_get ws k ≡ Some (Slot s) → ⊥) → count_by (leads_to s) ws ≡ 0
none_leads s [] h = refl
none_leads s (Nil ∷ ws) h = none_leads s ws (λ k. h (suc k))
none_leads s (Int i ∷ ws) h = none_leads s ws (λ k. h (suc k))
none_leads s (Truth b ∷ ws) h = none_leads s ws (λ k. h (suc k))
none_leads s (Slot x ∷ ws) h = elim (eqb_tells s x) [
  | inl e ↦ absurd (h 0 (ap (λ y. Some (Slot y)) (sym e.1)))
  | inr e ↦ rw e.0 (none_leads s ws (λ k. h (suc k)))
]

module _ (c : Table) (t : RegionTable) (cells : Table) (regions : RegionTable) (key slot : ℕ) (rec : Record) (b : Body)
    (g : Grove c t) (w : RegionComes c t cells regions key slot rec b) where
  near : Beside c cells slot
  near = beside c cells slot b w.made w.vacant

  lies_new : LiesIn cells.heap rec.number slot
  lies_new = ap (option_map (λ (b : Body). b.label)) w.made.body ∙ ap Some w.label

  none_lay : (s : ℕ) → LiesIn c.heap rec.number s → ⊥
  none_lay s l = let a = g.labels rec.number s l in w.fresh a.0 a.1

  -- what lies in a region is the new cell in the new one, or lay there before
  lies_back : (q s : ℕ) → LiesIn cells.heap q s → ((q ≡ rec.number) × (s ≡ slot)) ⊎ ((q ≢ rec.number) × (s ≢ slot) × LiesIn c.heap q s)
  lies_back q s l = elim (cases_eq s slot) [
    | inl e ↦ let P : ℕ → Type 0 = λ z. LiesIn cells.heap q z in inl (one_region cells.heap slot q rec.number (subst P e l) lies_new, e)
    | inr d ↦
        let a = near.label_back s (Region q) d l in
        let P : ℕ → Type 0 = λ z. LiesIn c.heap z s in
        inr ((λ z. none_lay s (subst P z a)), d, a)
  ]

  field_new : (s k : ℕ) (v : Word) → s ≡ slot → field_at cells.heap s k ≡ Some v → slice_get b.fields k ≡ Some v
  field_new s k v e f =
      let P : ℕ → Type 0 = λ z. field_at cells.heap z k ≡ Some v in
      sym (ap (option_and_then (λ (b : Body). slice_get b.fields k)) w.made.body) ∙ subst P e f

  not_from : (k to : ℕ) → slice_get b.fields k ≡ Some (Slot to) → to ≢ slot
  not_from k to f = elim (w.leads k to f) [ inl a ↦ near.apart to Frozen a | inr y ↦ near.apart to (Region y.number) y.lies ]

  -- a field of another region's cell leads into no new region, and nothing leads there
  pub alone_new : (p s k to : ℕ) → p ≢ rec.number → LiesIn cells.heap p s → field_at cells.heap s k ≡ Some (Slot to)
      → LiesIn cells.heap rec.number to → ⊥
  alone_new p s k to d l f i = elim (lies_back p s l) [
    | inl e ↦ d e.0
    | inr x ↦ elim (lies_back rec.number to i) [
      | inl e ↦ not_to c cells t slot g near p s k to x.2 (near.field_back s k (Slot to) x.1 f) e.1
      | inr y ↦ y.0 refl
    ]
  ]

  -- into a region that was there the new cell leads only where that had no owner
  owned_new : (q k to : ℕ) → slice_get b.fields k ≡ Some (Slot to) → LiesIn c.heap q to → (y : OwnedByNone c t to) × (y.number ≡ q)
  owned_new q k to f l = elim (w.leads k to f) [
    | inl a ↦ let z : Some Frozen ≡ Some (Region q) = sym a ∙ l in cc
    | inr y ↦ (y, one_region c.heap to y.number q y.lies l)
  ]

  alone_old : (q k to p s j x : ℕ) → slice_get b.fields k ≡ Some (Slot to) → LiesIn c.heap q to
      → p ≢ q → LiesIn c.heap p s → field_at c.heap s j ≡ Some (Slot x) → LiesIn c.heap q x → ⊥
  alone_old q k to p s j x f l d m e i =
      let y = owned_new q k to f l in
      let P : ℕ → Type 0 = λ z. LiesIn c.heap z x in
      y.0.alone p s j x (λ z. d (z ∙ y.1)) m e (subst P (sym y.1) i)

  -- keys
  other_key : (k : ℕ) (z : Record) → record_at t k ≡ Some z → k ≢ key
  other_key k z a e = let P : ℕ → Type 0 = λ y. record_at t y ≡ Some z in let q : None ≡ Some z = sym w.free ∙ subst P e a in cc

  has_on : (k n : ℕ) → HasNumber t k n → HasNumber regions k n
  has_on k n a =
      let P : ℕ → Type 0 = λ y. HasNumber t y n in
      let d : k ≢ key = λ e. let q : None ≡ Some n = sym (ap (option_map (λ (r : Record). r.number)) w.free) ∙ subst P e a in cc in
      ap (option_map (λ (r : Record). r.number)) (w.others k d) ∙ a

  number_new : HasNumber regions key rec.number
  number_new = number_of regions key rec.number rec w.is refl

  has_back : (k n : ℕ) → HasNumber regions k n → ((k ≡ key) × (n ≡ rec.number)) ⊎ HasNumber t k n
  has_back k n a = elim (cases_eq k key) [
    | inl e ↦ let P : ℕ → Type 0 = λ y. HasNumber regions y n in inl (e, same_Some n rec.number (sym (subst P e a) ∙ number_new))
    | inr d ↦ inr (sym (ap (option_map (λ (r : Record). r.number)) (w.others k d)) ∙ a)
  ]

  record_back : (k : ℕ) (z : Record) → record_at regions k ≡ Some z → (z ≡ rec) ⊎ ((z.number ≢ rec.number) × (record_at t k ≡ Some z))
  record_back k z a = elim (cases_eq k key) [
    | inl e ↦ let P : ℕ → Type 0 = λ y. record_at regions y ≡ Some z in inl (same_Some z rec (sym (subst P e a) ∙ w.is))
    | inr d ↦ let o = sym (w.others k d) ∙ a in inr ((λ n. w.fresh k (number_of t k rec.number z o n)), o)
  ]

  bridge_on : (q to : ℕ) → IsBridge t q to → IsBridge regions q to
  bridge_on q to v = (v.0, v.1, w.others v.0 (other_key v.0 v.1 v.2) ∙ v.2, v.3, v.4)

  -- the new region is nobody's child
  not_child : (p q : ℕ) → Parent cells.heap p q → q ≢ rec.number
  not_child p q a e =
      let P : ℕ → Type 0 = λ z. LiesIn cells.heap z a.to in
      alone_new p a.from a.field a.to (λ z. a.differ (z ∙ sym e)) a.lies a.leads (subst P e a.child_has)

  parent_back : (p q : ℕ) → p ≢ rec.number → Parent cells.heap p q → Parent c.heap p q
  parent_back p q d a = elim (lies_back p a.from a.lies) [
    | inl e ↦ absurd (d e.0)
    | inr x ↦ elim (lies_back q a.to a.child_has) [
      | inl e ↦ absurd (not_child p q a e.0)
      | inr y ↦ parent_by c.heap cells.heap p q a x.2 (near.field_back a.from a.field (Slot a.to) x.1 a.leads) y.2
    ]
  ]

  above_back : (p q : ℕ) → p ≢ rec.number → Above cells.heap p q → (q ≢ rec.number) × Above c.heap p q
  above_back p q d (direct a) = (not_child p q a, direct (parent_back p q d a))
  above_back p q d (further {q = m} a e) =
      let x = above_back p m d a in
      (not_child m q e, further x.1 (parent_back m q x.0 e))

  not_own_child : (p q : ℕ) → Above cells.heap p q → q ≢ rec.number
  not_own_child p q (direct a) = not_child p q a
  not_own_child p q (further {q = m} a e) = not_child m q e

  -- counts of the fields that lead to a cell
  referrers_on : (q s : ℕ) → q ≢ rec.number → referrers cells.heap q s ≡ referrers c.heap q s
  referrers_on q s d = total_alike (weight q s) refl c.heap.slots cells.heap.slots (λ n. elim (cases_eq n slot) [
    | inl e ↦
        let off : belongs q (body_at cells.heap n) ≡ false =
        belongs_not q (body_at cells.heap n) (λ l. elim (lies_back q n l) [ inl y ↦ d y.0 | inr y ↦ y.1 e ]) in
        weighs_none q s (body_at cells.heap n) off ∙ sym (ap (weight q s) (ap (body_at c.heap) e ∙ w.vacant))
    | inr a ↦ ap (weight q s) (near.same n a)
  ])

  referrers_new : referrers cells.heap rec.number slot ≡ 0
  referrers_new = total_alike (weight rec.number slot) refl [] cells.heap.slots (λ n. elim (lies_or_not cells.heap rec.number n) [
    | inl out ↦ weighs_none rec.number slot (body_at cells.heap n) (belongs_not rec.number (body_at cells.heap n) out)
    | inr l ↦ elim (lies_back rec.number n l) [
      | inl e ↦
          let none : count_by (leads_to slot) b.fields ≡ 0 = none_leads slot b.fields (λ k f. not_from k slot f refl) in
          ap (weight rec.number slot) (ap (body_at cells.heap) e.1 ∙ w.made.body) ∙ new_weight none
      | inr y ↦ absurd (y.0 refl)
    ]
  ])
    where
      new_weight : count_by (leads_to slot) b.fields ≡ 0 → weight rec.number slot (Some b) ≡ 0
      new_weight e = by_test (belongs rec.number (Some b)) e
        where
          by_test : (x : Bool) → count_by (leads_to slot) b.fields ≡ 0 → cond {A = ℕ} x (count_by (leads_to slot) b.fields) 0 ≡ 0
          by_test false e = refl
          by_test true e = e

  pub grove_comes : Grove cells regions
  grove_comes = record {
    numbers = λ k o n x y. elim (has_back k n x) [
      | inl e ↦ elim (has_back o n y) [
        | inl f ↦ e.0 ∙ sym f.0
        | inr f ↦ let P : ℕ → Type 0 = λ z. HasNumber t o z in absurd (w.fresh o (subst P e.1 f))
      ]
      | inr e ↦ elim (has_back o n y) [
        | inl f ↦ let P : ℕ → Type 0 = λ z. HasNumber t k z in absurd (w.fresh k (subst P f.1 e))
        | inr f ↦ g.numbers k o n e f
      ]
    ];
    members = λ k z a. elim (record_back k z a) [
      | inl e ↦ let P : Record → Type 0 = λ y. Members cells.heap y.number y.members in subst P (sym e) own
      | inr o ↦
          let m = g.members k z o.1 in
          record {
            lie = λ i s q. near.label_on s (Region z.number) (m.lie i s q);
            all = λ s l. elim (lies_back z.number s l) [ inl e ↦ absurd (o.0 e.0) | inr x ↦ m.all s x.2 ];
            once = m.once;
          }
    ];
    bridges = λ k s z a x. elim (record_back k z a) [
      | inl e ↦
          let P : Record → Type 0 = λ y. y.bridge ≡ Some s in
          let q : s ≡ slot = same_Some s slot (sym (subst P e x) ∙ w.bridge) in
          let L : Record → Type 0 = λ y. LiesIn cells.heap y.number s in
          let S : ℕ → Type 0 = λ y. LiesIn cells.heap rec.number y in
          subst L (sym e) (subst S (sym q) lies_new)
      | inr o ↦ near.label_on s (Region z.number) (g.bridges k s z o.1 x)
    ];
    labels = λ q s l. elim (lies_back q s l) [
      | inl e ↦ (key, number_of regions key q rec w.is (sym e.0))
      | inr x ↦ let a = g.labels q s x.2 in (a.0, has_on a.0 q a.1)
    ];
    frozen = λ s k to l f.
        let d : s ≢ slot = λ e.
        let P : ℕ → Type 0 = λ y. label_at cells.heap y ≡ Some Frozen in
        let q : Some Frozen ≡ Some (Region rec.number) = sym (subst P e l) ∙ lies_new in
        cc in
        near.label_on to Frozen (g.frozen s k to (near.label_back s Frozen d l) (near.field_back s k (Slot to) d f));
    fields = λ p s k to l f. elim (lies_back p s l) [
      | inl e ↦ elim (w.leads k to (field_new s k (Slot to) e.1 f)) [
        | inl a ↦ inl (near.label_on to Frozen a)
        | inr y ↦
            let P : ℕ → Type 0 = λ z. LiesIn c.heap z to in
            let d : y.number ≢ p = λ z. none_lay to (subst P (z ∙ e.0) y.lies) in
            inr (inr (y.number, d, near.label_on to (Region y.number) y.lies, bridge_on y.number to y.bridge))
      ]
      | inr x ↦ leads_on c cells t regions near.label_on bridge_on p to (g.fields p s k to x.2 (near.field_back s k (Slot to) x.1 f))
    ];
    one_in = λ q p s k to p2 s2 k2 to2 d l f i d2 l2 f2 i2. elim (cases_eq q rec.number) [
      | inl e ↦
          let P : ℕ → Type 0 = λ z. LiesIn cells.heap z to in
          absurd (alone_new p s k to (λ z. d (z ∙ sym e)) l f (subst P e i))
      | inr n ↦
          let o = was q to n i in
          let o2 = was q to2 n i2 in
          elim (lies_back p s l) [
            | inl e ↦ elim (lies_back p2 s2 l2) [
              | inl e2 ↦ (e.1 ∙ sym e2.1, w.once k k2 q to to2 (field_new s k (Slot to) e.1 f) (field_new s2 k2 (Slot to2) e2.1 f2) o o2)
              | inr x2 ↦
                  absurd (alone_old q k to p2 s2 k2 to2 (field_new s k (Slot to) e.1 f) o d2 x2.2 (near.field_back s2 k2 (Slot to2) x2.1 f2) o2)
            ]
            | inr x ↦ elim (lies_back p2 s2 l2) [
              | inl e2 ↦ absurd (alone_old q k2 to2 p s k to (field_new s2 k2 (Slot to2) e2.1 f2) o2 d x.2 (near.field_back s k (Slot to) x.1 f) o)
              | inr x2 ↦
                  g.one_in q p s k to p2 s2 k2 to2 d x.2 (near.field_back s k (Slot to) x.1 f) o d2 x2.2
                  (near.field_back s2 k2 (Slot to2) x2.1 f2) o2
            ]
          ]
    ];
    none_into_first = λ p s k to d l f i. elim (cases_eq 0 rec.number) [
      | inl e ↦ let P : ℕ → Type 0 = λ z. LiesIn cells.heap z to in alone_new p s k to (λ z. d (z ∙ sym e)) l f (subst P e i)
      | inr n ↦
          let o = was 0 to n i in
          elim (lies_back p s l) [
            | inl e ↦ let y = owned_new 0 k to (field_new s k (Slot to) e.1 f) o in y.0.not_first y.1
            | inr x ↦ g.none_into_first p s k to d x.2 (near.field_back s k (Slot to) x.1 f) o
          ]
    ];
    no_cycle = λ r a. g.no_cycle r (above_back r r (not_own_child r r a) a).1;
    counts = λ k s z a m l. elim (record_back k z a) [
      | inl e ↦
          let L : Record → Type 0 = λ y. LiesIn cells.heap y.number s in
          let G : ℕ → Type 0 = λ y. mark_at cells y ≡ referrers cells.heap rec.number y in
          let R : Record → Type 0 = λ y. mark_at cells s ≡ referrers cells.heap y.number s in
          elim (lies_back rec.number s (subst L e l)) [
            | inl q ↦ subst R (sym e) (subst G (sym q.1) (w.made.mark ∙ sym referrers_new))
            | inr q ↦ absurd (q.0 refl)
          ]
      | inr o ↦ elim (lies_back z.number s l) [
        | inl e ↦ absurd (o.0 e.0)
        | inr x ↦ w.made.marks s x.1 ∙ g.counts k s z o.1 m x.2 ∙ sym (referrers_on z.number s x.0)
      ]
    ];
    unmarked = λ s n. elim (cases_eq s slot) [
      | inl e ↦ ap (mark_at cells) e ∙ w.made.mark
      | inr d ↦
          w.made.marks s d
          ∙ g.unmarked s (λ k z a m l. n k z (w.others k (other_key k z a) ∙ a) m (near.label_on s (Region z.number) l))
    ];
  }
    where
      was : (q s : ℕ) → q ≢ rec.number → LiesIn cells.heap q s → LiesIn c.heap q s
      was q s n l = elim (lies_back q s l) [ inl e ↦ absurd (n e.0) | inr x ↦ x.2 ]

      own : Members cells.heap rec.number rec.members
      own = let P : List ℕ → Type 0 = λ ms. Members cells.heap rec.number ms in subst P (sym w.members) (record {
        lie = λ i s q. let S : ℕ → Type 0 = λ y. LiesIn cells.heap rec.number y in subst S (sym (single slot i s q).1) lies_new;
        all = λ s l. elim (lies_back rec.number s l) [ inl e ↦ (0, ap Some (sym e.1)) | inr x ↦ absurd (x.0 refl) ];
        once = λ i j s p q. (single slot i s p).0 ∙ sym (single slot j s q).0;
      })
