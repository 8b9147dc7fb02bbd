-- A region gets another bridge, and what led to the old one leads to it: the forest stays one (docs/architecture.md, "The heap").
use Rattle.std.proofs.Common.{◌≡◌, ◌≢◌, ℕ, Some, refl, ap, sym, ◌∙◌, subst, ◌⊎◌, inl, inr, option_map, slice_get}
use Rattle.std.proofs.lemmas.Bool.{cases_eq}
use Rattle.std.proofs.lemmas.Option.{same_Some}
use Rattle.rg_base.specs.declared.words.Manager.TheVariants.{Count}
use Rattle.rg_base.specs.declared.value.Word.{Word}
use Rattle.rg_base.specs.declared.value.Word.TheVariants.{Nil, Slot}
use Rattle.rg_base.proofs.Callers.Labels.{slot-same}
use Rattle.rg_cells.specs.declared.cell.Body.{Body}
use Rattle.rg_cells.specs.Table.{Heap, Table, body_at, field_at, label_at, mark_at, with_field}
use Rattle.rg_regions.specs.Table.{Record, RegionTable, record_at, HasNumber, IsBridge, changed, with_bridge}
use Rattle.rg_regions.specs.Reach.{LiesIn}
use Rattle.rg_regions.specs.Grove.{Grove, Members, Above, further, referrers}
use Rattle.rg_regions.proofs.Callers.Told.{field_within, one_region, record_there}
use Rattle.rg_regions.proofs.Callers.Fewer.{above_by, parent_by}
use Rattle.rg_regions.proofs.Callers.Changed.{changed_at, changed_other}
use Rattle.rg_frames.specs.Stack.{Stack}
use Rattle.rg_heap.specs.Writes.{Comes, InActive, Ownerless}
use Rattle.rg_heap.specs.Ends.{IsTemp}
use Rattle.rg_heap.proofs.Fields.{field_now, field_was, label_same, with_twice}
use Rattle.rg_heap.proofs.Marked.{field_there, grove_swapped}

-- no field of another region's cell leads into a region
abbrev pub IsAlone : Heap → (region : ℕ) → Type 0
IsAlone h r = (p s k to : ℕ) → p ≢ r → LiesIn h p s → field_at h s k ≡ Some (Slot to) → LiesIn h r to → ⊥

-- a region that no field leads into gets another bridge
module _ (c : Table) (t : RegionTable) (key r slot : ℕ) (g : Grove c t) (has : HasNumber t key r) (lies : LiesIn c.heap r slot)
    (alone : IsAlone c.heap r) where
  abbrev pub regions : RegionTable
  regions = changed t key (with_bridge slot)

  -- a record is what it was, but for the bridge of this one
  record_back : (o : ℕ) (z : Record) → record_at regions o ≡ Some z
      → (y : Record) × (record_at t o ≡ Some y) × ((z ≡ y) ⊎ ((o ≡ key) × (z ≡ with_bridge slot y)))
  record_back o z a = elim (cases_eq o key) [
    | inl e ↦
        let was = record_there (record_at t key) r has in
        let P : ℕ → Type 0 = λ x. record_at regions x ≡ Some z in
        let T : ℕ → Type 0 = λ x. record_at t x ≡ Some was.0 in (
          was.0,
          subst T (sym e) was.1,
          inr (e, same_Some z (with_bridge slot was.0) (sym (subst P e a) ∙ changed_at t key was.0 (with_bridge slot) was.1)),
        )
    | inr d ↦ (z, sym (changed_other t key (with_bridge slot) o d) ∙ a, inl refl)
  ]

  record_on : (o : ℕ) (y : Record) → record_at t o ≡ Some y → (z : Record) × (record_at regions o ≡ Some z) × ((z ≡ y) ⊎ (z ≡ with_bridge slot y))
  record_on o y a = elim (cases_eq o key) [
    | inl e ↦
        let P : ℕ → Type 0 = λ x. record_at regions x ≡ Some (with_bridge slot y) in
        let T : ℕ → Type 0 = λ x. record_at t x ≡ Some y in
        (with_bridge slot y, subst P (sym e) (changed_at t key y (with_bridge slot) (subst T e a)), inr refl)
    | inr d ↦ (y, changed_other t key (with_bridge slot) o d ∙ a, inl refl)
  ]

  pub numbers_same : (o : ℕ) → option_map (λ (x : Record). x.number) (record_at regions o) ≡ option_map (λ (x : Record). x.number) (record_at t o)
  numbers_same o = elim (cases_eq o key) [
    | inl e ↦
        let was = record_there (record_at t key) r has in
        let P : ℕ → Type 0 = λ x. option_map (λ (y : Record). y.number) (record_at regions x)
        ≡ option_map (λ (y : Record). y.number) (record_at t x) in
        subst P (sym e) (
        ap (option_map (λ (x : Record). x.number)) (changed_at t key was.0 (with_bridge slot) was.1)
        ∙ sym (ap (option_map (λ (x : Record). x.number)) was.1))
    | inr d ↦ ap (option_map (λ (x : Record). x.number)) (changed_other t key (with_bridge slot) o d)
  ]

  has_back : (o n : ℕ) → HasNumber regions o n → HasNumber t o n
  has_back o n a = sym (numbers_same o) ∙ a

  pub bridge_new : IsBridge regions r slot
  bridge_new =
      let was = record_there (record_at t key) r has in
      (key, with_bridge slot was.0, changed_at t key was.0 (with_bridge slot) was.1, was.2, refl)

  pub grove_bridged : Grove c regions
  grove_bridged = record {
    numbers = λ o q n x y. g.numbers o q n (has_back o n x) (has_back q n y);
    members = λ o z a.
        let b = record_back o z a in
        let P : Record → Type 0 = λ x. Members c.heap x.number x.members in
        elim b.2 [ inl e ↦ subst P (sym e) (g.members o b.0 b.1) | inr e ↦ subst P (sym e.1) (g.members o b.0 b.1) ];
    bridges = λ o s z a x.
        let b = record_back o z a in
        elim b.2 [
          | inl e ↦
              let P : Record → Type 0 = λ y. y.bridge ≡ Some s → LiesIn c.heap y.number s in
              subst P (sym e) (λ f. g.bridges o s b.0 b.1 f) x
          | inr e ↦
              let P : Record → Type 0 = λ y. y.bridge ≡ Some s → LiesIn c.heap y.number s in
              let here = record_there (record_at t key) r has in
              let T : ℕ → Type 0 = λ y. record_at t y ≡ Some b.0 in
              let same : r ≡ b.0.number =
              sym here.2 ∙ ap (λ (y : Record). y.number) (same_Some here.0 b.0 (sym here.1 ∙ subst T e.0 b.1)) in
              let S : ℕ → Type 0 = λ y. LiesIn c.heap b.0.number y in
              let N : ℕ → Type 0 = λ y. LiesIn c.heap y slot in
              subst P (sym e.1) (λ f. subst S (same_Some slot s f) (subst N same lies)) x
        ];
    labels = λ q s l. let a = g.labels q s l in (a.0, numbers_same a.0 ∙ a.1);
    frozen = g.frozen;
    fields = λ p s k to l f. elim (g.fields p s k to l f) [
      | inl a ↦ inl a
      | inr a ↦ elim a [
        | inl b ↦ inr (inl b)
        | inr b ↦ elim (cases_eq b.0 r) [
          | inl e ↦
              let P : ℕ → Type 0 = λ n. LiesIn c.heap n to in
              absurd (alone p s k to (λ q. b.1 (e ∙ sym q)) l f (subst P e b.2))
          | inr d ↦
              let v = b.3 in
              let other : v.0 ≢ key = λ e.
              let here = record_there (record_at t key) r has in
              let T : ℕ → Type 0 = λ y. record_at t y ≡ Some v.1 in
              d (sym v.3 ∙ sym (ap (λ (y : Record). y.number) (same_Some here.0 v.1 (sym here.1 ∙ subst T e v.2))) ∙ here.2) in
              inr (inr (b.0, b.1, b.2, (v.0, v.1, changed_other t key (with_bridge slot) v.0 other ∙ v.2, v.3, v.4)))
        ]
      ]
    ];
    one_in = g.one_in;
    none_into_first = g.none_into_first;
    no_cycle = g.no_cycle;
    counts = λ o s z a m l.
        let b = record_back o z a in
        let P : Record → Type 0 = λ y. y.manager ≡ Count → LiesIn c.heap y.number s → mark_at c s ≡ referrers c.heap y.number s in
        elim b.2 [
          | inl e ↦ subst P (sym e) (λ m l. g.counts o s b.0 b.1 m l) m l
          | inr e ↦ subst P (sym e.1) (λ m l. g.counts o s b.0 b.1 m l) m l
        ];
    unmarked = λ s n. g.unmarked s (λ o y a m l.
        let b = record_on o y a in
        let P : Record → Type 0 = λ x. (x.manager ≡ Count) × LiesIn c.heap x.number s in
        let x : P b.0 = elim b.2 [ inl e ↦ subst P (sym e) (m, l) | inr e ↦ subst P (sym e) (m, l) ] in
        n o b.0 b.1 x.0 x.1);
  }

-- A region gets another bridge, and the one field that leads into it from outside leads to that.
module _ (c : Table) (t : RegionTable) (v : Stack) (key r slot holder k x : ℕ) (g : Grove c t) (has : HasNumber t key r)
    (lies : LiesIn c.heap r slot) (leads : field_at c.heap holder k ≡ Some (Slot x)) (into : LiesIn c.heap r x)
    (out : LiesIn c.heap r holder → ⊥) (place : InActive c.heap t v holder (λ n. Unit {0}) ⊎ IsTemp c.heap holder)
    (alone : (p s j to : ℕ) → p ≢ r → LiesIn c.heap p s → field_at c.heap s j ≡ Some (Slot to) → LiesIn c.heap r to
    → (s ≡ holder) × (j ≡ k)) where
  abbrev pub is : (b : Body) × (old : Word) × (body_at c.heap holder ≡ Some b) × (slice_get b.fields k ≡ Some old)
  is = field_there c.heap holder k (field_within c.heap holder k (Slot x) leads)

  abbrev pub mid : Table
  mid = record c { heap = with_field c.heap holder k Nil }

  -- the field is nil between
  nil_now : field_at mid.heap holder k ≡ Some Nil
  nil_now = field_now c.heap holder k is.0 is.1 Nil is.2 is.3

  labels_mid : (s : ℕ) → label_at mid.heap s ≡ label_at c.heap s
  labels_mid s = label_same c.heap holder k is.0 is.1 Nil is.2 is.3 s

  lay : (q s : ℕ) → LiesIn mid.heap q s → LiesIn c.heap q s
  lay q s l = sym (labels_mid s) ∙ l

  fields_mid : (s j to : ℕ) → field_at mid.heap s j ≡ Some (Slot to) → field_at c.heap s j ≡ Some (Slot to)
  fields_mid s j to f = elim (field_was c.heap holder k is.0 is.1 Nil is.2 is.3 s j (Slot to) f) [ inl a ↦ (let z = a.2 in cc) | inr a ↦ a ]

  other : (n : ℕ) → LiesIn c.heap n holder → r ≢ n
  other n l e = let P : ℕ → Type 0 = λ z. LiesIn c.heap z holder in out (subst P (sym e) l)

  grove_mid : Grove mid t
  grove_mid = grove_swapped c mid t v holder k Nil g refl (field_within c.heap holder k (Slot x) leads) (elim place [
    | inl a ↦ inl (
      a.0,
      a.1,
      a.2,
      a.3,
      a.4,
      (
        (λ to e. let z : Nil ≡ Slot to = e in cc),
        (λ to f l.
            let P : ℕ → Type 0 = λ z. LiesIn c.heap a.1 z in
            let same : to ≡ x = slot-same to x (same_Some (Slot to) (Slot x) (sym f ∙ leads)) in
            other a.1 a.4 (one_region c.heap x r a.1 into (subst P same l))),
      ),
    )
    | inr a ↦ inr a
  ])

  alone_mid : IsAlone mid.heap r
  alone_mid p s j to d l f i =
      let e = alone p s j to d (lay p s l) (fields_mid s j to f) (lay r to i) in
      let P : ℕ → Type 0 = λ z. field_at mid.heap z j ≡ Some (Slot to) in
      let Q : ℕ → Type 0 = λ z. field_at mid.heap holder z ≡ Some (Slot to) in
      let z : Some Nil ≡ Some (Slot to) = sym nil_now ∙ subst Q e.1 (subst P e.0 f) in
      cc

  abbrev pub bridged : RegionTable
  bridged = changed t key (with_bridge slot)

  grove_now : Grove mid bridged
  grove_now = grove_bridged mid t key r slot grove_mid has (labels_mid slot ∙ lies) alone_mid

  above_was : (p q : ℕ) → Above mid.heap p q → Above c.heap p q
  above_was = above_by c.heap mid.heap (λ p q w. parent_by c.heap mid.heap p q w (lay p w.from w.lies) (fields_mid w.from w.field w.to w.leads)
      (lay q w.to w.child_has))

  not_first : (n : ℕ) → LiesIn c.heap n holder → r ≢ 0
  not_first n l e =
      let P : ℕ → Type 0 = λ z. LiesIn c.heap z x in
      g.none_into_first n holder k x (λ z. other n l (e ∙ sym z)) l leads (subst P e into)

  comes : (n : ℕ) → LiesIn c.heap n holder → Comes mid.heap bridged n (Slot slot)
  comes n l to e =
      let C : ℕ → Type 0 = λ z. (q : ℕ) × Ownerless mid.heap bridged q z × (q ≢ n) × (Above mid.heap q n → ⊥) in
      subst C (slot-same slot to e) (
        r,
        record {
          lies = labels_mid slot ∙ lies;
          bridge = bridge_new mid t key r slot grove_mid has (labels_mid slot ∙ lies) alone_mid;
          not_first = not_first n l;
          alone = alone_mid;
        },
        other n l,
        (λ a. g.no_cycle r (further (above_was r n a) (record {
          differ = λ z. other n l (sym z);
          from = holder;
          field = k;
          to = x;
          lies = l;
          leads = leads;
          child_has = into;
        }))),
      )

  pub grove_rebridged : (cells : Table) → cells ≡ record c { heap = with_field c.heap holder k (Slot slot) } → Grove cells bridged
  grove_rebridged cells e =
      let end : Table = record mid { heap = with_field mid.heap holder k (Slot slot) } in
      let same : end ≡ cells =
      ap (λ h. record c { heap = h }) (with_twice c.heap holder k is.0 is.1 Nil (Slot slot) is.2 is.3) ∙ sym e in
      let G : Table → Type 0 = λ z. Grove z bridged in
      subst G same (
      grove_swapped mid end bridged v holder k (Slot slot) grove_now refl (field_within mid.heap holder k Nil nil_now) (elim place [
        | inl a ↦ inl (
          a.0,
          a.1,
          a.2,
          numbers_same mid t key r slot grove_mid has (labels_mid slot ∙ lies) alone_mid a.0.region ∙ a.3,
          labels_mid holder ∙ a.4,
          (comes a.1 a.4, (λ to f l. let z : Some Nil ≡ Some (Slot to) = sym nil_now ∙ f in cc)),
        )
        | inr a ↦ inr (a.0, labels_mid holder ∙ a.1)
      ]))
