-- A cell comes into a region that doesn't count, and leads within it: the forest stays one (docs/architecture.md,
-- "Regions").
use Rattle.std.proofs.Common.{◌≡◌, ◌≢◌, ℕ, zero, suc, false, List, [], ◌∷◌, ◌++◌, length, Some}
use Rattle.std.proofs.Common.{None}
use Rattle.std.proofs.Common.{refl, ap, sym, ◌∙◌, subst, ◌⊎◌, inl, inr, option_map, option_and_then, slice_get}
use Rattle.std.proofs.lemmas.Bool.{cases_eq}
use Rattle.std.proofs.lemmas.Option.{same_Some}
use Rattle.rg_base.specs.declared.object.Label.TheVariants.{Region, Frozen}
use Rattle.rg_base.specs.declared.words.Manager.TheVariants.{Count}
use Rattle.rg_base.specs.declared.value.Word.TheVariants.{Slot}
use Rattle.rg_cells.specs.declared.cell.Body.{Body}
use Rattle.rg_cells.specs.Table.{Table, Made, body_at, field_at, label_at, mark_at}
use Rattle.rg_regions.specs.Table.{Record, RegionTable, record_at, HasNumber, IsBridge}
use Rattle.rg_regions.specs.Reach.{LiesIn, belongs}
use Rattle.rg_regions.specs.Grove.{Grove, Members, Parent, referrers}
use Rattle.rg_regions.proofs.Callers.Told.{one_region, number_of}
use Rattle.rg_regions.proofs.Callers.Fewer.{total_alike, belongs_not, weight, weighs_none, above_by, parent_by}
use Rattle.rg_regions.proofs.Callers.Beside.{Beside, beside, not_to, leads_on}

-- What comes: a cell at a slot that wasn't held, as the last member of a region, whose fields lead to cells of the
-- region.
pub record CellComes (c : Table) (t : RegionTable) (cells : Table) (regions : RegionTable) (key slot : ℕ)
    (rec now : Record)
    (b : Body) : Type 0 where
  pub vacant : body_at c.heap slot ≡ None
  pub made : Made c cells slot b
  pub there : record_at t key ≡ Some rec
  pub is : record_at regions key ≡ Some now
  pub number : now.number ≡ rec.number
  pub manager : now.manager ≡ rec.manager
  pub bridge : now.bridge ≡ rec.bridge
  pub members : now.members ≡ rec.members ++ slot ∷ []
  pub others : (k : ℕ) → k ≢ key → record_at regions k ≡ record_at t k
  pub uncounted : rec.manager ≢ Count
  pub label : b.label ≡ Region rec.number
  pub leads : (k to : ℕ) → slice_get b.fields k ≡ Some (Slot to) → LiesIn c.heap rec.number to

-- an element of a list with one more at its end
pub one_more : (xs : List ℕ) (x i s : ℕ) → slice_get (xs ++ x ∷ []) i ≡ Some s
    → (slice_get xs i ≡ Some s) ⊎ ((i ≡ length xs) × (s ≡ x))
one_more [] x zero s e = inr (refl, same_Some s x (sym e))
one_more [] x (suc i) s e = cc
one_more (y ∷ xs) x zero s e = inl e
one_more (y ∷ xs) x (suc i) s e = elim (one_more xs x i s e) [ inl a ↦ inl a | inr a ↦ inr (ap suc a.0, a.1) ]

pub old_one : (xs : List ℕ) (x i s : ℕ) → slice_get xs i ≡ Some s → slice_get (xs ++ x ∷ []) i ≡ Some s
old_one [] x i s e = cc
old_one (y ∷ xs) x zero s e = e
old_one (y ∷ xs) x (suc i) s e = old_one xs x i s e

pub last_one : (xs : List ℕ) (x : ℕ) → slice_get (xs ++ x ∷ []) (length xs) ≡ Some x
last_one [] x = refl
last_one (y ∷ xs) x = last_one xs x

module _ (c : Table) (t : RegionTable) (cells : Table) (regions : RegionTable) (key slot : ℕ) (rec now : Record)
    (b : Body)
    (g : Grove c t) (w : CellComes c t cells regions key slot rec now b) where
  pub near : Beside c cells slot
  near = beside c cells slot b w.made w.vacant

  pub comes_in : LiesIn cells.heap rec.number slot
  comes_in = ap (option_map (λ (b : Body). b.label)) w.made.body ∙ ap Some w.label

  lies_back : (q s : ℕ) → LiesIn cells.heap q s → ((q ≡ rec.number) × (s ≡ slot)) ⊎ ((s ≢ slot) × LiesIn c.heap q s)
  lies_back q s l = elim (cases_eq s slot) [
    | inl e ↦
        let P : ℕ → Type 0 = λ z. LiesIn cells.heap q z in
        inl (one_region cells.heap slot q rec.number (subst P e l) comes_in, e)
    | inr d ↦ inr (d, near.label_back s (Region q) d l)
  ]

  led_new : (s k to : ℕ) → s ≡ slot → field_at cells.heap s k ≡ Some (Slot to) → LiesIn c.heap rec.number to
  led_new s k to e f =
      let P : ℕ → Type 0 = λ z. field_at cells.heap z k ≡ Some (Slot to) in
      w.leads k to (sym (ap (option_and_then (λ (b : Body). slice_get b.fields k)) w.made.body) ∙ subst P e f)

  -- a field that leads out of its region did so before
  led_out : (p q s k to : ℕ) → p ≢ q → LiesIn cells.heap p s → field_at cells.heap s k ≡ Some (Slot to)
      → LiesIn cells.heap q to → LiesIn c.heap p s × (field_at c.heap s k ≡ Some (Slot to)) × LiesIn c.heap q to
  led_out p q s k to d l f i = elim (lies_back p s l) [
    | inl e ↦
        let m = near.label_on to (Region rec.number) (led_new s k to e.1 f) in
        absurd (d (e.0 ∙ one_region cells.heap to rec.number q m i))
    | inr x ↦
        let f0 = near.field_back s k (Slot to) x.0 f in
        (x.1, f0, near.label_back to (Region q) (not_to c cells t slot g near p s k to x.1 f0) i)
  ]

  number_now : HasNumber regions key rec.number
  number_now = number_of regions key rec.number now w.is w.number

  has_on : (k n : ℕ) → HasNumber t k n → HasNumber regions k n
  has_on k n a = elim (cases_eq k key) [
    | inl e ↦
        let P : ℕ → Type 0 = λ y. HasNumber t y n in
        let N : ℕ → Type 0 = λ y. HasNumber regions y n in
        let M : ℕ → Type 0 = λ y. HasNumber regions key y in
        let q : rec.number ≡ n = same_Some rec.number n
        (sym (number_of t key rec.number rec w.there refl) ∙ subst P e a) in
        subst N (sym e) (subst M q number_now)
    | inr d ↦ ap (option_map (λ (r : Record). r.number)) (w.others k d) ∙ a
  ]

  has_back : (k n : ℕ) → HasNumber regions k n → HasNumber t k n
  has_back k n a = elim (cases_eq k key) [
    | inl e ↦
        let P : ℕ → Type 0 = λ y. HasNumber regions y n in
        let N : ℕ → Type 0 = λ y. HasNumber t y n in
        let M : ℕ → Type 0 = λ y. HasNumber t key y in
        let q : rec.number ≡ n = same_Some rec.number n (sym number_now ∙ subst P e a) in
        subst N (sym e) (subst M q (number_of t key rec.number rec w.there refl))
    | inr d ↦ sym (ap (option_map (λ (r : Record). r.number)) (w.others k d)) ∙ a
  ]

  record_back : (k : ℕ) (z : Record) → record_at regions k ≡ Some z
      → (z ≡ now) ⊎ ((z.number ≢ rec.number) × (record_at t k ≡ Some z))
  record_back k z a = elim (cases_eq k key) [
    | inl e ↦ let P : ℕ → Type 0 = λ y. record_at regions y ≡ Some z in
        inl (same_Some z now (sym (subst P e a) ∙ w.is))
    | inr d ↦
        let o = sym (w.others k d) ∙ a in
        inr (
          (λ n. d (g.numbers k key rec.number (number_of t k rec.number z o n)
              (number_of t key rec.number rec w.there refl))),
          o,
        )
  ]

  bridge_on : (q to : ℕ) → IsBridge t q to → IsBridge regions q to
  bridge_on q to v = elim (cases_eq v.0 key) [
    | inl e ↦
        let r : v.1 ≡ rec = same_Some v.1 rec (sym v.2 ∙ ap (record_at t) e ∙ w.there) in (
          key,
          now,
          w.is,
          w.number ∙ sym (ap (λ (z : Record). z.number) r) ∙ v.3,
          w.bridge ∙ sym (ap (λ (z : Record). z.bridge) r) ∙ v.4,
        )
    | inr d ↦ (v.0, v.1, w.others v.0 d ∙ v.2, v.3, v.4)
  ]

  parent_back : (p q : ℕ) → Parent cells.heap p q → Parent c.heap p q
  parent_back p q a =
      let x = led_out p q a.from a.field a.to a.differ a.lies a.leads a.child_has in
      parent_by c.heap cells.heap p q a x.0 x.1 x.2

  referrers_on : (q s : ℕ) → q ≢ rec.number → referrers cells.heap q s ≡ referrers c.heap q s
  referrers_on q s d = total_alike (weight q s) refl c.heap.slots cells.heap.slots (λ n. elim (cases_eq n slot) [
    | inl e ↦
        let off : belongs q (body_at cells.heap n) ≡ false =
        belongs_not q (body_at cells.heap n) (λ l. elim (lies_back q n l) [ inl y ↦ d y.0 | inr y ↦ y.0 e ]) in
        weighs_none q s (body_at cells.heap n) off ∙ sym (ap (weight q s) (ap (body_at c.heap) e ∙ w.vacant))
    | inr a ↦ ap (weight q s) (near.same n a)
  ])

  own : Members cells.heap rec.number (rec.members ++ slot ∷ [])
  own =
      let m = g.members key rec w.there in
      let apart : (i : ℕ) → slice_get rec.members i ≡ Some slot → ⊥ = λ i e.
      near.apart slot (Region rec.number) (m.lie i slot e) refl in
      let S : (i : ℕ) → ℕ → Type 0 = λ i z. slice_get rec.members i ≡ Some z in
      record {
        lie = λ i s e. elim (one_more rec.members slot i s e) [
          | inl a ↦ near.label_on s (Region rec.number) (m.lie i s a)
          | inr a ↦ let P : ℕ → Type 0 = λ z. LiesIn cells.heap rec.number z in subst P (sym a.1) comes_in
        ];
        all = λ s l. elim (lies_back rec.number s l) [
          | inl e ↦ (length rec.members, last_one rec.members slot ∙ ap Some (sym e.1))
          | inr x ↦ let a = m.all s x.1 in (a.0, old_one rec.members slot a.0 s a.1)
        ];
        once = λ i j s e f. elim (one_more rec.members slot i s e) [
          | inl a ↦ elim (one_more rec.members slot j s f) [
            | inl d ↦ m.once i j s a d
            | inr d ↦ absurd (apart i (subst (S i) d.1 a))
          ]
          | inr a ↦ elim (one_more rec.members slot j s f) [
            | inl d ↦ absurd (apart j (subst (S j) a.1 d))
            | inr d ↦ a.0 ∙ sym d.0
          ]
        ];
      }

  pub grove_cell : Grove cells regions
  grove_cell = record {
    numbers = λ k o n x y. g.numbers k o n (has_back k n x) (has_back o n y);
    members = λ k z a. elim (record_back k z a) [
      | inl e ↦
          let P : Record → Type 0 = λ y. Members cells.heap y.number y.members in
          let N : ℕ → Type 0 = λ n. Members cells.heap n now.members in
          let L : List ℕ → Type 0 = λ ms. Members cells.heap rec.number ms in
          subst P (sym e) (subst N (sym w.number) (subst L (sym w.members) own))
      | inr o ↦
          let m = g.members k z o.1 in
          record {
            lie = λ i s q. near.label_on s (Region z.number) (m.lie i s q);
            all = λ s l. elim (lies_back z.number s l) [ inl e ↦ absurd (o.0 e.0) | inr x ↦ m.all s x.1 ];
            once = m.once;
          }
    ];
    bridges = λ k s z a x. elim (record_back k z a) [
      | inl e ↦
          let q : rec.bridge ≡ Some s = sym w.bridge ∙ sym (ap (λ (y : Record). y.bridge) e) ∙ x in
          let L : Record → Type 0 = λ y. LiesIn cells.heap y.number s in
          let N : ℕ → Type 0 = λ n. LiesIn cells.heap n s in
          subst L (sym e) (subst N (sym w.number) (near.label_on s (Region rec.number) (g.bridges key s rec w.there q)))
      | inr o ↦ near.label_on s (Region z.number) (g.bridges k s z o.1 x)
    ];
    labels = λ q s l. elim (lies_back q s l) [
      | inl e ↦ (key, let P : ℕ → Type 0 = λ n. HasNumber regions key n in subst P (sym e.0) number_now)
      | inr x ↦ let a = g.labels q s x.1 in (a.0, has_on a.0 q a.1)
    ];
    frozen = λ s k to l f.
        let d : s ≢ slot = λ e.
        let P : ℕ → Type 0 = λ y. label_at cells.heap y ≡ Some Frozen in
        let q : Some Frozen ≡ Some (Region rec.number) = sym (subst P e l) ∙ comes_in in
        cc in
        near.label_on to Frozen (g.frozen s k to (near.label_back s Frozen d l) (near.field_back s k (Slot to) d f));
    fields = λ p s k to l f. elim (lies_back p s l) [
      | inl e ↦
          let P : ℕ → Type 0 = λ n. LiesIn cells.heap n to in
          inr (inl (subst P (sym e.0) (near.label_on to (Region rec.number) (led_new s k to e.1 f))))
      | inr x ↦ leads_on c cells t regions near.label_on bridge_on p to (g.fields p s k to x.1 (near.field_back s k (Slot to) x.0 f))
    ];
    one_in = λ q p s k to p2 s2 k2 to2 d l f i d2 l2 f2 i2.
        let x = led_out p q s k to d l f i in
        let y = led_out p2 q s2 k2 to2 d2 l2 f2 i2 in
        g.one_in q p s k to p2 s2 k2 to2 d x.0 x.1 x.2 d2 y.0 y.1 y.2;
    none_into_first = λ p s k to d l f i.
        let x = led_out p 0 s k to d l f i in g.none_into_first p s k to d x.0 x.1 x.2;
    no_cycle = λ r a. g.no_cycle r (above_by c.heap cells.heap parent_back r r a);
    counts = λ k s z a m l. elim (record_back k z a) [
      | inl e ↦ absurd (w.uncounted (sym w.manager ∙ sym (ap (λ (y : Record). y.manager) e) ∙ m))
      | inr o ↦ elim (lies_back z.number s l) [
        | inl e ↦ absurd (o.0 e.0)
        | inr x ↦ w.made.marks s x.0 ∙ g.counts k s z o.1 m x.1 ∙ sym (referrers_on z.number s o.0)
      ]
    ];
    unmarked = λ s n. elim (cases_eq s slot) [
      | inl e ↦ ap (mark_at cells) e ∙ w.made.mark
      | inr d ↦ w.made.marks s d ∙ g.unmarked s (λ k z a m l. elim (cases_eq k key) [
        | inl e ↦
            let r : z ≡ rec = same_Some z rec (sym a ∙ ap (record_at t) e ∙ w.there) in
            w.uncounted (sym (ap (λ (y : Record). y.manager) r) ∙ m)
        | inr o ↦ n k z (w.others k o ∙ a) m (near.label_on s (Region z.number) l)
      ])
    ];
  }
