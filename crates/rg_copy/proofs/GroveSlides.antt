-- A collection that moves cells keeps the forest (docs/architecture.md, "A manager that moves its cells").
use Rattle.std.proofs.Common.{◌≡◌, ◌≢◌, ℕ, List, Option, Some, None, refl, ap, sym, ◌∙◌, subst, inl, inr}
use Rattle.std.proofs.Common.{slice_get, option_map, option_and_then}
use Rattle.std.proofs.lemmas.Bool.{cases_eq}
use Rattle.std.proofs.lemmas.Option.{slice_get-map, same_Some}
use Rattle.rg_base.specs.declared.object.Label.{Label}
use Rattle.rg_base.specs.declared.object.Label.TheVariants.{Region, Temp, Frozen}
use Rattle.rg_base.specs.declared.words.Manager.TheVariants.{Count, Trace}
use Rattle.rg_base.specs.declared.value.Word.{Word}
use Rattle.rg_base.specs.declared.value.Word.TheVariants.{Nil, Int, Bool as Truth, Slot}
use Rattle.rg_base.proofs.Callers.Labels.{slot-same, region-number}
use Rattle.rg_cells.specs.declared.cell.Body.{Body}
use Rattle.rg_cells.specs.Table.{Heap, Table, body_at, label_at, field_at}
use Rattle.rg_frames.specs.Stack.{Stack}
use Rattle.rg_regions.specs.Table.{Record, RegionTable, record_at, HasNumber, IsBridge}
use Rattle.rg_regions.specs.Reach.{LiesIn}
use Rattle.rg_regions.specs.Grove.{Grove, Members, Parent, Above, direct, further, referrers}
use Rattle.rg_regions.proofs.Callers.OneShrinks.{bridge_stays}
use Rattle.rg_regions.proofs.Callers.Told.{one_region, lies_or_not}
use Rattle.rg_regions.proofs.Callers.Fewer.{total_alike, belongs_not, weight, weighs_none}
use Rattle.rg_copy.specs.Inner.Moves.{all_fields, IsTempAt}
use Rattle.rg_copy.proofs.Stages.{Stages, place, change, body-off, marks-off, IsReached, from, from-place, from-inside}
use Rattle.rg_copy.proofs.Stages.{body-reached, lies-reached, only-reached, bridge-place, bridge-reached, unmarked-slot}
use Rattle.rg_copy.proofs.Stages.{body-e, lies_of, change-reached, change-other, label-off, label-f, reach-closed}
use Rattle.rg_copy.proofs.Slides.{slides, leads-bridge}

module _ {c m p e f s cells : Table} {t u regions : RegionTable} {key : ℕ} {rec : Record} {v frames : Stack}
    {members : List ℕ} (g : Stages c m p e f s cells t u regions key rec v frames members) where
  abbrev At : ℕ → ℕ
  At = from g

  abbrev Place : ℕ → ℕ
  Place = place g

  abbrev Change : Word → Word
  Change = change g

  abbrev Reached : ℕ → Type 0
  Reached x = IsReached g x

  -- slots outside the region
  at-off : (x : ℕ) → (LiesIn c.heap rec.number x → ⊥) → At x ≡ x
  at-off x n = g.shifted.1.outside x
      (λ l. n (sym (label-f g x) ∙ l))

  stay : (x : ℕ) (l : Label) → (LiesIn c.heap rec.number x → ⊥) → label_at c.heap x ≡ Some l
      → label_at cells.heap x ≡ Some l
  stay x l n q = label-off g x n ∙ q

  -- a label was there before, where the cell was
  back : (x : ℕ) (l : Label) → label_at cells.heap x ≡ Some l → label_at c.heap (At x) ≡ Some l
  back x l q = elim (lies_or_not c.heap rec.number x) [
    | inl n ↦
        let o : label_at c.heap x ≡ Some l =
        sym (label-off g x n) ∙ q in
        ap (label_at c.heap) (at-off x n) ∙ o
    | inr i ↦ elim (lies_or_not cells.heap rec.number x) [
      | inl n ↦
          let z = (slides g).gone x i n in
          let y : None ≡ Some l = sym (ap (option_map (λ (b : Body). b.label)) z) ∙ q in
          cc
      | inr k ↦
          let a = only-reached g x k in
          ap (label_at c.heap) a.3 ∙ lies_of g a.0 a.1 ∙ sym k ∙ q
    ]
  ]

  -- a cell that isn't of the region stands where it stood
  off-of : (x : ℕ) (l : Label) → label_at cells.heap x ≡ Some l → l ≢ Region rec.number
      → LiesIn c.heap rec.number x → ⊥
  off-of x l q d i =
      let a = back x l q in
      let b = from-inside g x i in
      d (same_Some l (Region rec.number) (sym a ∙ b))

  back-off : (x : ℕ) (l : Label) → label_at cells.heap x ≡ Some l → l ≢ Region rec.number → label_at c.heap x ≡ Some l
  back-off x l q d = ap (label_at c.heap) (sym (at-off x (off-of x l q d))) ∙ back x l q

  differs : (q : ℕ) → q ≢ rec.number → Region q ≢ Region rec.number
  differs q d e = d (region-number q rec.number e)

  -- a word that is a slot behind the change was one before
  slot-before : (w : Word) (y : ℕ) → Change w ≡ Slot y → (z : ℕ) × (w ≡ Slot z)
  slot-before Nil y q = cc
  slot-before (Int i) y q = cc
  slot-before (Truth b) y q = cc
  slot-before (Slot z) y q = (z, refl)

  -- where a field leads, it led before from where the cell was to where the cell was to which it leads
  module _ (x k y : ℕ) where
    abbrev Leads : Type 0
    Leads = (field_at c.heap (At x) k ≡ Some (Slot (At y))) × (label_at cells.heap y ≡ label_at c.heap (At y))

    leads-in : LiesIn cells.heap rec.number x → field_at cells.heap x k ≡ Some (Slot y) → Leads
    leads-in l q =
        let a = only-reached g x l in
        let b = body-reached g a.0 a.1 in
        let B : body_at cells.heap x ≡ option_map (all_fields Change) (body_at c.heap a.0) =
        ap (body_at cells.heap) (sym a.2) ∙ b in
        let w = by_body (body_at c.heap a.0)
        (sym (ap (option_and_then (λ (b : Body). slice_get b.fields k)) B) ∙ q) in
        let z = slot-before w.0 y w.2 in
        let led : field_at c.heap a.0 k ≡ Some (Slot z.0) = w.1 ∙ ap Some z.1 in
        let to : Change (Slot z.0) ≡ Slot y = ap Change (sym z.1) ∙ w.2 in
        elim (lies_or_not c.heap rec.number z.0) [
          | inl off ↦
              let n : (i : ℕ) → Slot z.0 ≡ Slot i → Reached i → ⊥ = λ i r n.
              let j : z.0 ≡ i = slot-same z.0 i r in
              let L : ℕ → Type 0 = λ h. LiesIn c.heap rec.number h in
              off (subst L (sym j) (lies_of g i n)) in
              let r : z.0 ≡ y = slot-same z.0 y
              (sym (change-other g (Slot z.0) n) ∙ to) in
              let O : ℕ → Type 0 = λ h. LiesIn c.heap rec.number h → ⊥ in
              let offy : LiesIn c.heap rec.number y → ⊥ = subst O r off in
              let same = at-off y offy in (
                ap (λ i. field_at c.heap i k) a.3 ∙ led ∙ ap (λ i. Some (Slot i)) (r ∙ sym same),
                label-off g y offy
                    ∙ ap (label_at c.heap) (sym same),
              )
          | inr in_region ↦
              let n = reach-closed g a.0 k z.0 a.1 led in_region in
              let r : Place z.0 ≡ y = slot-same (Place z.0) y
              (sym (change-reached g z.0 n) ∙ to) in
              let there : At y ≡ z.0 = ap At (sym r)
              ∙ from-place g z.0 n in (
                ap (λ i. field_at c.heap i k) a.3 ∙ led ∙ ap (λ i. Some (Slot i)) (sym there),
                ap (label_at cells.heap) (sym r)
                    ∙ lies-reached g z.0 n
                    ∙ sym in_region ∙ ap (label_at c.heap) (sym there),
              )
        ]
      where
        by_word : (o : Option Word) → option_map Change o ≡ Some (Slot y)
            → (w : Word) × (o ≡ Some w) × (Change w ≡ Slot y)
        by_word None q = cc
        by_word (Some w) q = (w, refl, same_Some (Change w) (Slot y) q)

        by_body : (o : Option Body)
            → option_and_then (λ (b : Body). slice_get b.fields k) (option_map (all_fields Change) o) ≡ Some (Slot y)
            → (w : Word) × (option_and_then (λ (b : Body). slice_get b.fields k) o ≡ Some w) × (Change w ≡ Slot y)
        by_body None q = cc
        by_body (Some b) q = by_word (slice_get b.fields k) (sym (slice_get-map Change b.fields k) ∙ q)

    leads-off : (l : Label) → label_at cells.heap x ≡ Some l → l ≢ Region rec.number
        → ((n : ℕ) → l ≢ Temp n) → field_at cells.heap x k ≡ Some (Slot y) → Leads
    leads-off l q d n w =
        let off = off-of x l q d in
        let was = back-off x l q d in
        let temp : IsTempAt p.heap x → ⊥ = λ i. n i.0 (same_Some l (Temp i.0)
        (sym was ∙ ap (λ (h : Heap). label_at h x) (sym (g.plans.heap ∙ g.marked.heap)) ∙ i.1)) in
        let same = body-off g x off
        ∙ body-e g x temp in
        let led : field_at c.heap x k ≡ Some (Slot y) =
        sym (ap (option_and_then (λ (b : Body). slice_get b.fields k)) same) ∙ w in
        let here = at-off x off in
        elim (lies_or_not c.heap rec.number y) [
          | inl offy ↦
              let there = at-off y offy in (
                ap (λ i. field_at c.heap i k) here ∙ led ∙ ap (λ i. Some (Slot i)) (sym there),
                label-off g y offy
                    ∙ ap (label_at c.heap) (sym there),
              )
          | inr lies ↦
              let b = leads-bridge g x k y off temp led lies in
              let z = bridge-place g y b in
              let r = bridge-reached g y b in
              let there : At y ≡ y = ap At (sym z)
              ∙ from-place g y r in (
                ap (λ i. field_at c.heap i k) here ∙ led ∙ ap (λ i. Some (Slot i)) (sym there),
                ap (label_at cells.heap) (sym z)
                    ∙ lies-reached g y r
                    ∙ sym lies ∙ ap (label_at c.heap) (sym there),
              )
        ]

  -- records and numbers are those that were there
  has : (k n : ℕ) → HasNumber regions k n → HasNumber t k n
  has k n a =
      let w = slides g in
      elim (cases_eq k key) [
        | inl q ↦
            let P : ℕ → Type 0 = λ y. HasNumber regions y n in
            let N : ℕ → Type 0 = λ y. HasNumber t y n in
            let b : HasNumber regions key n = subst P q a in
            subst N (sym q) (ap (option_map (λ (z : Record). z.number)) g.there ∙ ap Some (sym w.own.2)
            ∙ sym (ap (option_map (λ (z : Record). z.number)) w.own.1) ∙ b)
        | inr d ↦ sym (ap (option_map (λ (z : Record). z.number)) (w.records k d)) ∙ a
      ]

  has_back : (k n : ℕ) → HasNumber t k n → HasNumber regions k n
  has_back k n a =
      let w = slides g in
      elim (cases_eq k key) [
        | inl q ↦
            let P : ℕ → Type 0 = λ y. HasNumber t y n in
            let N : ℕ → Type 0 = λ y. HasNumber regions y n in
            let b : HasNumber t key n = subst P q a in
            subst N (sym q) (ap (option_map (λ (z : Record). z.number)) w.own.1 ∙ ap Some w.own.2
            ∙ sym (ap (option_map (λ (z : Record). z.number)) g.there) ∙ b)
        | inr d ↦ ap (option_map (λ (z : Record). z.number)) (w.records k d) ∙ a
      ]

  number_is : (k n : ℕ) (z : Record) → record_at t k ≡ Some z → z.number ≡ n → HasNumber t k n
  number_is k n z a b = ap (option_map (λ (y : Record). y.number)) a ∙ ap Some b

  apart : (k : ℕ) (z : Record) → k ≢ key → record_at t k ≡ Some z → z.number ≢ rec.number
  apart k z d a n =
      d (g.grove.numbers k key rec.number (number_is k rec.number z a n) (number_is key rec.number rec g.there refl))

  bridge_to : (q to : ℕ) → IsBridge t q to → IsBridge regions q to
  bridge_to =
      let w = slides g in
      bridge_stays t regions key rec w.own.0 g.there w.own.1 w.own.2 w.own.4 w.records

  -- a cell of any region leads as it led
  leads : (q x k y : ℕ) → LiesIn cells.heap q x → field_at cells.heap x k ≡ Some (Slot y) → Leads x k y
  leads q x k y l w = elim (cases_eq q rec.number) [
    | inl a ↦ let L : ℕ → Type 0 = λ z. LiesIn cells.heap z x in leads-in x k y (subst L a l) w
    | inr d ↦ leads-off x k y (Region q) l (differs q d) (λ n z. cc) w
  ]

  parent-back : (a b : ℕ) → Parent cells.heap a b → Parent c.heap a b
  parent-back a b w =
      let z = leads a w.from w.field w.to w.lies w.leads in
      record {
        differ = w.differ;
        from = At w.from;
        field = w.field;
        to = At w.to;
        lies = back w.from (Region a) w.lies;
        leads = z.0;
        child_has = back w.to (Region b) w.child_has;
      }

  above-back : (a b : ℕ) → Above cells.heap a b → Above c.heap a b
  above-back a b (direct w) = direct (parent-back a b w)
  above-back a b (further {q = i} w z) = further (above-back a i w) (parent-back i b z)

  -- a cell of another region lies there as before
  was-in : (q x : ℕ) → q ≢ rec.number → LiesIn cells.heap q x → LiesIn c.heap q x
  was-in q x d l = back-off x (Region q) l (differs q d)

  stays-in : (q x : ℕ) → q ≢ rec.number → LiesIn c.heap q x → LiesIn cells.heap q x
  stays-in q x d l = stay x (Region q) (λ i. d (one_region c.heap x q rec.number l i)) l

  -- so many fields of another region lead to a slot as before
  referrers_stay : (q x : ℕ) → q ≢ rec.number → referrers cells.heap q x ≡ referrers c.heap q x
  referrers_stay q x d = total_alike (weight q x) refl c.heap.slots cells.heap.slots (λ n.
      elim (lies_or_not c.heap q n) [
        | inl off ↦
            weighs_none q x (body_at cells.heap n) (belongs_not q (body_at cells.heap n) (λ l. off (was-in q n d l)))
            ∙ sym (weighs_none q x (body_at c.heap n) (belongs_not q (body_at c.heap n) off))
        | inr l ↦
            let o : LiesIn c.heap rec.number n → ⊥ = λ i. d (one_region c.heap n q rec.number l i) in
            let temp : IsTempAt p.heap n → ⊥ = λ i.
            let z : Some (Region q) ≡ Some (Temp i.0) = sym l
            ∙ ap (λ (h : Heap). label_at h n) (sym (g.plans.heap ∙ g.marked.heap)) ∙ i.1 in
            cc in
            ap (weight q x) (body-off g n o
            ∙ body-e g n temp)
      ])

  bridge-at : (b : ℕ) → rec.bridge ≡ Some b → At b ≡ b
  bridge-at b q =
      let r = bridge-reached g b q in
      ap At (sym (bridge-place g b q))
      ∙ from-place g b r

  bridge-lies : (b : ℕ) → rec.bridge ≡ Some b → LiesIn cells.heap rec.number b
  bridge-lies b q =
      let r = bridge-reached g b q in
      let L : ℕ → Type 0 = λ z. LiesIn cells.heap rec.number z in
      subst L (bridge-place g b q)
      (lies-reached g b r)

  -- a bridge stands where it stood
  bridge-stands : (q y : ℕ) → IsBridge t q (At y) → LiesIn cells.heap q y → At y ≡ y
  bridge-stands q y b l = elim (cases_eq b.0 key) [
    | inl a ↦
        let same : b.1 ≡ rec = same_Some b.1 rec (sym b.2 ∙ ap (record_at t) a ∙ g.there) in
        let is : rec.bridge ≡ Some (At y) = sym (ap (λ (z : Record). z.bridge) same) ∙ b.4 in
        g.shifted.1.one (At y) y (bridge-at (At y) is)
    | inr d ↦
        let n : q ≢ rec.number = λ z. apart b.0 b.1 d b.2 (b.3 ∙ z) in
        at-off y (off-of y (Region q) l (differs q n))
  ]

  pub grove-slides : Grove cells regions
  grove-slides =
      let w = slides g in
      record {
        numbers = λ k o n a b. g.grove.numbers k o n (has k n a) (has o n b);
        members = λ k z a. elim (cases_eq k key) [
          | inl q ↦
              let same : w.own.0 ≡ z = same_Some w.own.0 z (sym w.own.1 ∙ sym (ap (record_at regions) q) ∙ a) in
              let M : Record → Type 0 = λ y. Members cells.heap y.number y.members in
              let N : ℕ → Type 0 = λ n. Members cells.heap n w.own.0.members in
              subst M same (subst N (sym w.own.2) w.own.5)
          | inr d ↦
              let b : record_at t k ≡ Some z = sym (w.records k d) ∙ a in
              let ms = g.grove.members k z b in
              let off = apart k z d b in
              record {
                lie = λ i x q. stays-in z.number x off (ms.lie i x q);
                all = λ x l. ms.all x (was-in z.number x off l);
                once = ms.once;
              }
        ];
        bridges = λ k x z a b. elim (cases_eq k key) [
          | inl q ↦
              let same : w.own.0 ≡ z = same_Some w.own.0 z (sym w.own.1 ∙ sym (ap (record_at regions) q) ∙ a) in
              let i : rec.bridge ≡ Some x = sym w.own.4 ∙ ap (λ (y : Record). y.bridge) same ∙ b in
              let L : ℕ → Type 0 = λ n. LiesIn cells.heap n x in
              subst L (sym w.own.2 ∙ ap (λ (y : Record). y.number) same) (bridge-lies x i)
          | inr d ↦
              let r : record_at t k ≡ Some z = sym (w.records k d) ∙ a in
              stays-in z.number x (apart k z d r) (g.grove.bridges k x z r b)
        ];
        labels = λ q x l. let a = g.grove.labels q (At x) (back x (Region q) l) in (a.0, has_back a.0 q a.1);
        frozen = λ x k to l q.
            let a = leads-off x k to Frozen l (λ z. cc) (λ n z. cc) q in
            a.1 ∙ g.grove.frozen (At x) k (At to) (back x Frozen l) a.0;
        fields = λ r x k to l q.
            let a = leads r x k to l q in
            elim (g.grove.fields r (At x) k (At to) (back x (Region r) l) a.0) [
              | inl i ↦ inl (a.1 ∙ i)
              | inr y ↦ elim y [
                | inl i ↦ inr (inl (a.1 ∙ i))
                | inr i ↦
                    let there : LiesIn cells.heap i.0 to = a.1 ∙ i.2 in
                    let B : ℕ → Type 0 = λ z. IsBridge t i.0 z in
                    inr (inr (i.0, i.1, there, bridge_to i.0 to (subst B (bridge-stands i.0 to i.3 there) i.3)))
              ]
            ];
        one_in = λ q r x k to r2 x2 k2 to2 d l a i d2 l2 a2 i2.
            let b = leads r x k to l a in
            let b2 = leads r2 x2 k2 to2 l2 a2 in
            let z = g.grove.one_in q r (At x) k (At to) r2 (At x2) k2 (At to2) d (back x (Region r) l) b.0
            (back to (Region q) i) d2 (back x2 (Region r2) l2) b2.0 (back to2 (Region q) i2) in
            (g.shifted.1.one x x2 z.0, z.1);
        none_into_first = λ r x k to d l a i.
            g.grove.none_into_first r (At x) k (At to) d (back x (Region r) l) (leads r x k to l a).0
            (back to (Region 0) i);
        no_cycle = λ r a. g.grove.no_cycle r (above-back r r a);
        counts = λ k x z a n l. elim (cases_eq k key) [
          | inl q ↦
              let same : w.own.0 ≡ z = same_Some w.own.0 z (sym w.own.1 ∙ sym (ap (record_at regions) q) ∙ a) in
              let y : Trace ≡ Count = sym g.traced ∙ sym w.own.3 ∙ ap (λ (y : Record). y.manager) same ∙ n in
              cc
          | inr d ↦
              let b : record_at t k ≡ Some z = sym (w.records k d) ∙ a in
              let off = apart k z d b in
              let was = was-in z.number x off l in
              (marks-off g x
              (λ i. off (one_region c.heap x z.number rec.number was i))).0
              ∙ g.grove.counts k x z b n was ∙ sym (referrers_stay z.number x off)
        ];
        unmarked = λ x n. elim (lies_or_not c.heap rec.number x) [
          | inl off ↦
              (marks-off g x off).0
              ∙ g.grove.unmarked x (λ k z a i l. elim (cases_eq k key) [
                | inl q ↦
                    let same : rec ≡ z = same_Some rec z (sym g.there ∙ sym (ap (record_at t) q) ∙ a) in
                    let L : ℕ → Type 0 = λ y. LiesIn c.heap y x in
                    off (subst L (sym (ap (λ (y : Record). y.number) same)) l)
                | inr d ↦ n k z (w.records k d ∙ a) i (stays-in z.number x (apart k z d a) l)
              ])
          | inr i ↦ unmarked-slot g x i
        ];
      }
