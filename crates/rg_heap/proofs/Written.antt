-- A field of a cell is written: the forest stays one (docs/architecture.md, "The heap").
use Rattle.std.proofs.Common.{◌≡◌, ◌≢◌, ℕ, zero, suc, ◌+◌, false, cond, List, [], ◌∷◌, Option, Some, None, refl, ap, sym, ◌∙◌}
use Rattle.std.proofs.Common.{subst, ◌⊎◌, inl, inr, option_map, option_and_then, slice_get, count_by, get_or, set, arith}
use Rattle.std.proofs.lemmas.Option.{same_Some}
use Rattle.rg_base.specs.declared.object.Label.TheVariants.{Region, Frozen}
use Rattle.rg_base.specs.declared.value.Word.{Word}
use Rattle.rg_base.specs.declared.value.Word.TheVariants.{Slot}
use Rattle.rg_cells.specs.declared.cell.Body.{Body}
use Rattle.rg_cells.specs.Table.{Heap, Table, body_at, body_in, field_at, label_at, mark_at, total, with_body, with_field}
use Rattle.rg_regions.specs.Table.{RegionTable}
use Rattle.rg_regions.specs.Reach.{LiesIn, belongs}
use Rattle.rg_regions.specs.Grove.{Grove, Parent, Above, direct, further, referrers, leads_to}
use Rattle.rg_regions.proofs.Callers.Told.{one_region, lies_or_not}
use Rattle.rg_regions.proofs.Callers.Fewer.{above_both, belongs_not, weight}
use Rattle.rg_count.proofs.Written.{referrers-written}
use Rattle.rg_heap.specs.Writes.{Ownerless, Comes, Stays, IsCounting}
use Rattle.rg_heap.specs.Inner.Marks.{leads_once}
use Rattle.rg_heap.proofs.Fields.{field_was, label_same, with_is}

-- a word may stand in a field of a region's cell
abbrev pub MayHold : Heap → RegionTable → (region : ℕ) → Word → Type 0
MayHold h t r w = Stays h r w ⊎ Comes h t r w

-- a field of a cell is written, and the marks follow where the cell's region counts
pub record Writes (c : Table) (t : RegionTable) (cells : Table) (slot k : ℕ) (b : Body) (old w : Word) : Type 0 where
  pub is : body_at c.heap slot ≡ Some b
  pub was : slice_get b.fields k ≡ Some old
  pub now : cells.heap ≡ with_field c.heap slot k w
  pub not_frozen : b.label ≢ Frozen
  pub may : (r : ℕ) → LiesIn c.heap r slot → MayHold c.heap t r w
  pub recounted : (r s : ℕ) → LiesIn c.heap r slot → IsCounting t r → LiesIn c.heap r s
      → mark_at cells s + leads_once s old ≡ mark_at c s + leads_once s w
  pub uncounted : (s : ℕ) → ((r : ℕ) → LiesIn c.heap r slot → IsCounting t r → LiesIn c.heap r s → ⊥) → mark_at cells s ≡ mark_at c s

-- a total with one slot written
pub total-set : (f : Option Body → ℕ) (xs : List (Option (Option Body))) (slot : ℕ) (b d : Body) → body_in (get_or xs slot None) ≡ Some b
    → total f (set xs slot (Some (Some d))) + f (Some b) ≡ total f xs + f (Some d)
total-set f [] slot b d e = cc
total-set f (x ∷ xs) zero b d e = let q = ap f e in omega (arith, q)
total-set f (x ∷ xs) (suc slot) b d e = omega (arith, total-set f xs slot b d e)

module _ (c : Table) (t : RegionTable) (cells : Table) (slot k : ℕ) (b : Body) (old w : Word) (g : Grove c t)
    (a : Writes c t cells slot k b old w) where
  abbrev new : Body
  new = record b { fields = set b.fields k w }

  heap_is : cells.heap ≡ with_body c.heap slot new
  heap_is = a.now ∙ with_is c.heap slot k b old w a.is a.was

  label_on : (s : ℕ) → label_at cells.heap s ≡ label_at c.heap s
  label_on s = ap (λ h. label_at h s) a.now ∙ label_same c.heap slot k b old w a.is a.was s

  lies_on : (r s : ℕ) → LiesIn c.heap r s → LiesIn cells.heap r s
  lies_on r s l = label_on s ∙ l

  lay : (r s : ℕ) → LiesIn cells.heap r s → LiesIn c.heap r s
  lay r s l = sym (label_on s) ∙ l

  -- a field holds what is written, or what it held
  field_back : (s j : ℕ) (x : Word) → field_at cells.heap s j ≡ Some x → ((s ≡ slot) × (j ≡ k) × (w ≡ x)) ⊎ (field_at c.heap s j ≡ Some x)
  field_back s j x f = field_was c.heap slot k b old w a.is a.was s j x (sym (ap (λ h. field_at h s j) a.now) ∙ f)

  -- what is written leads to this region, which had no owner
  abbrev Owns : ℕ → ℕ → Type 0
  Owns r q = (to : ℕ) × (w ≡ Slot to) × Ownerless c.heap t q to × (q ≢ r) × (Above c.heap q r → ⊥)

  slot_lies : (p s : ℕ) → s ≡ slot → LiesIn cells.heap p s → LiesIn c.heap p slot
  slot_lies p s e l = let P : ℕ → Type 0 = λ z. LiesIn c.heap p z in subst P e (lay p s l)

  -- a field that leads into another region did so before, or is the written one and now owns it
  leads_back : (p s j to q : ℕ) → p ≢ q → LiesIn cells.heap p s → field_at cells.heap s j ≡ Some (Slot to) → LiesIn cells.heap q to
      → ((s ≡ slot) × (j ≡ k) × LiesIn c.heap p slot × Owns p q) ⊎ (field_at c.heap s j ≡ Some (Slot to))
  leads_back p s j to q d l f i = elim (field_back s j (Slot to) f) [
    | inl e ↦
        let here = slot_lies p s e.0 l in
        elim (a.may p here) [
          | inl y ↦ elim (y to e.2) [
            | inl z ↦ let v : Some Frozen ≡ Some (Region q) = sym z ∙ lay q to i in cc
            | inr z ↦ absurd (d (one_region c.heap to p q z (lay q to i)))
          ]
          | inr y ↦
              let z = y to e.2 in
              let same_q : z.0 ≡ q = one_region c.heap to z.0 q z.1.lies (lay q to i) in
              let P : ℕ → Type 0 = λ n. Ownerless c.heap t n to × (n ≢ p) × (Above c.heap n p → ⊥) in
              let v = subst P same_q (z.1, z.2, z.3) in
              inl (e.0, e.1, here, (to, e.2, v.0, v.1, v.2))
        ]
    | inr e ↦ inr e
  ]

  parent_back : (p q : ℕ) → Parent cells.heap p q → Parent c.heap p q ⊎ (LiesIn c.heap p slot × Owns p q)
  parent_back p q e = elim (leads_back p e.from e.field e.to q e.differ e.lies e.leads e.child_has) [
    | inl x ↦ inr (x.2, x.3)
    | inr f ↦ inl (record {
      differ = e.differ;
      from = e.from;
      field = e.field;
      to = e.to;
      lies = lay p e.from e.lies;
      leads = f;
      child_has = lay q e.to e.child_has;
    })
  ]

  -- a chain of parents was there, or goes through the region that the written field now owns
  abbrev Through : ℕ → ℕ → Type 0
  Through x y = (p q : ℕ) × LiesIn c.heap p slot × Owns p q × ((x ≡ p) ⊎ Above c.heap x p) × ((y ≡ q) ⊎ Above c.heap q y)

  above_back : (x y : ℕ) → Above cells.heap x y → Above c.heap x y ⊎ Through x y
  above_back x y (direct e) = elim (parent_back x y e) [ inl o ↦ inl (direct o) | inr n ↦ inr (x, y, n.0, n.1, inl refl, inl refl) ]
  above_back x y (further {q = m} v e) = elim (above_back x m v) [
    | inl o ↦ elim (parent_back m y e) [
      | inl u ↦ inl (further o u)
      | inr n ↦ inr (m, y, n.0, n.1, inr o, inl refl)
    ]
    | inr o ↦ elim (parent_back m y e) [
      | inl u ↦ elim o.5 [
        | inl z ↦ let P : ℕ → Type 0 = λ n. Parent c.heap n y in inr (o.0, o.1, o.2, o.3, o.4, inr (direct (subst P z u)))
        | inr z ↦ inr (o.0, o.1, o.2, o.3, o.4, inr (further z u))
      ]
      | inr n ↦
          let P : ℕ → Type 0 = λ z. (x ≡ z) ⊎ Above c.heap x z in
          inr (m, y, n.0, n.1, subst P (one_region c.heap slot o.0 m o.2 n.0) o.4, inl refl)
    ]
  ]

  no_loop : (x : ℕ) → Through x x → ⊥
  no_loop x o =
      let p = o.0 in
      let q = o.1 in
      let n = o.3 in
      elim o.4 [
        | inl e ↦ elim o.5 [
          | inl f ↦ n.3 (sym f ∙ e)
          | inr f ↦ let P : ℕ → Type 0 = λ z. Above c.heap q z in n.4 (subst P e f)
        ]
        | inr e ↦ elim o.5 [
          | inl f ↦ let P : ℕ → Type 0 = λ z. Above c.heap z p in n.4 (subst P f e)
          | inr f ↦ n.4 (above_both c.heap q x p f e)
        ]
      ]

  referrers_set : (q s : ℕ) → referrers cells.heap q s + weight q s (Some b) ≡ referrers c.heap q s + weight q s (Some new)
  referrers_set q s = ap (λ (h : Heap). total (weight q s) h.slots + weight q s (Some b)) heap_is
      ∙ total-set (weight q s) c.heap.slots slot b new a.is

  referrers_here : (q s : ℕ) → LiesIn c.heap q slot → referrers cells.heap q s + leads_once s old ≡ referrers c.heap q s + leads_once s w
  referrers_here q s l =
      ap (λ (h : Heap). referrers h q s + leads_once s old) a.now
      ∙ referrers-written c.heap q slot k s old w l (ap (option_and_then (λ (b : Body). slice_get b.fields k)) a.is ∙ a.was)

  referrers_there : (q s : ℕ) → (LiesIn c.heap q slot → ⊥) → referrers cells.heap q s ≡ referrers c.heap q s
  referrers_there q s out =
      let x = referrers_set q s in
      let m : belongs q (Some b) ≡ false = belongs_not q (Some b) (λ e. out (ap (option_map (λ (b : Body). b.label)) a.is ∙ e)) in
      let u : weight q s (Some b) ≡ 0 = ap (λ z. cond {A = ℕ} z (count_by (leads_to s) b.fields) 0) m in
      let v : weight q s (Some new) ≡ 0 = ap (λ z. cond {A = ℕ} z (count_by (leads_to s) (set b.fields k w)) 0) m in
      omega (arith, x, u, v)

  pub grove_written : Grove cells t
  grove_written = record {
    numbers = g.numbers;
    members = λ o z e.
        let m = g.members o z e in
        record {
          lie = λ i s x. lies_on z.number s (m.lie i s x);
          all = λ s l. m.all s (lay z.number s l);
          once = m.once;
        };
    bridges = λ o s z e x. lies_on z.number s (g.bridges o s z e x);
    labels = λ r s l. g.labels r s (lay r s l);
    frozen = λ s j to l f. elim (field_back s j (Slot to) f) [
      | inl e ↦
          let P : ℕ → Type 0 = λ z. label_at c.heap z ≡ Some Frozen in
          absurd (a.not_frozen (same_Some b.label Frozen
          (sym (ap (option_map (λ (b : Body). b.label)) a.is) ∙ subst P e.0 (sym (label_on s) ∙ l))))
      | inr e ↦ label_on to ∙ g.frozen s j to (sym (label_on s) ∙ l) e
    ];
    fields = λ p s j to l f. elim (field_back s j (Slot to) f) [
      | inl e ↦ elim (a.may p (slot_lies p s e.0 l)) [
        | inl y ↦ elim (y to e.2) [ inl z ↦ inl (label_on to ∙ z) | inr z ↦ inr (inl (lies_on p to z)) ]
        | inr y ↦ let z = y to e.2 in inr (inr (z.0, z.2, lies_on z.0 to z.1.lies, z.1.bridge))
      ]
      | inr e ↦ elim (g.fields p s j to (lay p s l) e) [
        | inl x ↦ inl (label_on to ∙ x)
        | inr x ↦ elim x [ inl y ↦ inr (inl (lies_on p to y)) | inr y ↦ inr (inr (y.0, y.1, lies_on y.0 to y.2, y.3)) ]
      ]
    ];
    one_in = λ q p s j to p2 s2 j2 to2 d l f i d2 l2 f2 i2. elim (leads_back p s j to q d l f i) [
      | inl x ↦ elim (leads_back p2 s2 j2 to2 q d2 l2 f2 i2) [
        | inl y ↦ (x.0 ∙ sym y.0, x.1 ∙ sym y.1)
        | inr y ↦ absurd (x.3.2.alone p2 s2 j2 to2 d2 (lay p2 s2 l2) y (lay q to2 i2))
      ]
      | inr x ↦ elim (leads_back p2 s2 j2 to2 q d2 l2 f2 i2) [
        | inl y ↦ absurd (y.3.2.alone p s j to d (lay p s l) x (lay q to i))
        | inr y ↦ g.one_in q p s j to p2 s2 j2 to2 d (lay p s l) x (lay q to i) d2 (lay p2 s2 l2) y (lay q to2 i2)
      ]
    ];
    none_into_first = λ p s j to d l f i. elim (leads_back p s j to 0 d l f i) [
      | inl x ↦ x.3.2.not_first refl
      | inr x ↦ g.none_into_first p s j to d (lay p s l) x (lay 0 to i)
    ];
    no_cycle = λ r v. elim (above_back r r v) [ inl o ↦ g.no_cycle r o | inr o ↦ no_loop r o ];
    counts = λ o s z e m l.
        let l0 = lay z.number s l in
        elim (lies_or_not c.heap z.number slot) [
          | inl out ↦
              a.uncounted s (λ r x y v. let P : ℕ → Type 0 = λ n. LiesIn c.heap n slot in out (subst P (one_region c.heap s r z.number v l0) x))
              ∙ g.counts o s z e m l0 ∙ sym (referrers_there z.number s out)
          | inr here ↦
              let x = a.recounted z.number s here (o, z, e, refl, m) l0 in
              let y = g.counts o s z e m l0 in
              let v = referrers_here z.number s here in
              omega (arith, x, y, v)
        ];
    unmarked = λ s n.
        a.uncounted s (λ r x y v.
        let P : ℕ → Type 0 = λ z. LiesIn c.heap z s in
        n y.0 y.1 y.2 y.4 (lies_on y.1.number s (subst P (sym y.3) v)))
        ∙ g.unmarked s (λ o z e m l. n o z e m (lies_on z.number s l));
  }
