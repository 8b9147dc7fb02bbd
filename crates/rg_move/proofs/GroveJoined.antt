-- Where a region goes into another one, the forest is kept (docs/architecture.md, "Freeze and merge").
use Rattle.std.proofs.Common.{◌≡◌, ◌≢◌, ℕ, ◌+◌, ◌<◌, zero, suc, Bool, false, true, cond, List, [], ◌∷◌, ◌++◌, length}
use Rattle.std.proofs.Common.{Option, Some, None}
use Rattle.std.proofs.Common.{refl, ap, sym, ◌∙◌, subst, arith, ◌⊎◌, inl, inr, option_map, option_and_then, slice_get}
use Rattle.std.proofs.lemmas.Bool.{cases_eq}
use Rattle.std.proofs.lemmas.Option.{same_Some}
use Rattle.rg_base.specs.declared.object.Label.TheVariants.{Region, Frozen}
use Rattle.rg_base.specs.declared.words.Manager.TheVariants.{Count}
use Rattle.rg_base.specs.declared.value.Word.TheVariants.{Slot}
use Rattle.rg_base.proofs.Callers.Labels.{region-number}
use Rattle.rg_cells.specs.declared.cell.Body.{Body}
use Rattle.rg_cells.specs.Table.{Heap, Table, body_at, field_at, label_at, mark_at}
use Rattle.rg_regions.specs.Table.{Record, RegionTable, record_at, HasNumber, IsBridge}
use Rattle.rg_regions.specs.Reach.{LiesIn, belongs}
use Rattle.rg_regions.specs.Grove.{Grove, Members, Parent, Above, direct, further, referrers}
use Rattle.rg_regions.proofs.Callers.Told.{one_region, one_number, lies_or_not, number_of, record_there}
use Rattle.rg_regions.proofs.Callers.Told.{labelled_held}
use Rattle.rg_regions.proofs.Callers.Fewer.{total_alike, belongs_not, above_both, weight, weighs_none}
use Rattle.rg_regions.proofs.Callers.RegionComes.{none_leads}
use Rattle.rg_regions.proofs.Callers.Shares.{share, sum-agree, parted-all, has_place, place_has, distinct_by}
use Rattle.rg_move.specs.Closed.{Closed}
use Rattle.rg_move.specs.Merged.{CanTake, RecordsMerge}
use Rattle.rg_move.specs.Counted.{led, led_by}
use Rattle.rg_move.specs.Inner.Joins.{Relabels, Marks}
use Rattle.rg_move.proofs.PartFrozen.{same_fields, label_there, label_only}
use Rattle.rg_move.proofs.FieldsCounted.{belongs_there}

-- an element of two lists, one behind the other
of_both : (xs ys : List ℕ) (i : ℕ) → (slice_get (xs ++ ys) i ≡ slice_get xs i) × (i < length xs)
    ⊎ ((j : ℕ) × (i ≡ length xs + j) × (slice_get (xs ++ ys) i ≡ slice_get ys j))
of_both [] ys i = inr (i, omega arith, refl)
of_both (x ∷ xs) ys zero = inl (refl, omega arith)
of_both (x ∷ xs) ys (suc i) = elim (of_both xs ys i) [
  | inl e ↦ inl (e.0, omega (arith, e.1))
  | inr e ↦ inr (e.0, omega (arith, e.1), e.2)
]

of_first : (xs ys : List ℕ) (i s : ℕ) → slice_get xs i ≡ Some s → slice_get (xs ++ ys) i ≡ Some s
of_first [] ys i s e = cc
of_first (x ∷ xs) ys zero s e = e
of_first (x ∷ xs) ys (suc i) s e = of_first xs ys i s e

of_second : (xs ys : List ℕ) (i s : ℕ) → slice_get ys i ≡ Some s → slice_get (xs ++ ys) (length xs + i) ≡ Some s
of_second [] ys i s e = let z : length {A = ℕ} [] + i ≡ i = omega arith in ap (slice_get ys) z ∙ e
of_second (x ∷ xs) ys i s e =
    let z : length (x ∷ xs) + i ≡ suc (length xs + i) = omega arith in
    ap (slice_get (x ∷ (xs ++ ys))) z ∙ of_second xs ys i s e

weighs : (q x : ℕ) (o : Option Body) → belongs q o ≡ true → weight q x o ≡ led x o
weighs q x o e = rw e refl

weighs_led : (q x : ℕ) (o : Option Body) → led x o ≡ 0 → weight q x o ≡ 0
weighs_led q x o e = by_test (belongs q o) (led x o) e
  where
    by_test : (t : Bool) (n : ℕ) → n ≡ 0 → cond {A = ℕ} t n 0 ≡ 0
    by_test true n e = e
    by_test false n e = refl

-- a body of whose fields none leads to x
pub led_none : (h : Heap) (s x : ℕ) → ((k : ℕ) → field_at h s k ≡ Some (Slot x) → ⊥) → led x (body_at h s) ≡ 0
led_none h s x n = by_body (body_at h s) n
  where
    by_body : (o : Option Body) → ((k : ℕ) → option_and_then (λ (b : Body). slice_get b.fields k) o ≡ Some (Slot x)
        → ⊥) → led x o ≡ 0
    by_body None n = refl
    by_body (Some b) n = none_leads x b.fields n

module _ (c : Table) (t : RegionTable) (from into : ℕ) (a b : Record) (g : Grove c t) (at : record_at t from ≡ Some a)
    (to : record_at t into ≡ Some b) (o : Closed c.heap t from) (w : CanTake c.heap t from into) where
  has_from : HasNumber t from a.number
  has_from = number_of t from a.number a at refl

  has_into : HasNumber t into b.number
  has_into = number_of t into b.number b to refl

  pub apart : a.number ≢ b.number
  apart e = let P : ℕ → Type 0 = λ n. HasNumber t from n in w.differ (g.numbers from into b.number (subst P e has_from)
      has_into)

  -- nothing leads into the region that goes
  pub alone_from : (p s k x : ℕ) → p ≢ a.number → LiesIn c.heap p s → field_at c.heap s k ≡ Some (Slot x)
      → LiesIn c.heap a.number x → ⊥
  alone_from p s k x d l f i =
      let same : o.number ≡ a.number = one_number t from o.number a.number o.has has_from in
      let L : ℕ → Type 0 = λ n. LiesIn c.heap n x in
      o.alone p s k x (λ e. d (e ∙ same)) l f (subst L (sym same) i)

  not_above : Above c.heap a.number b.number → ⊥
  not_above e = w.above b.number has_into (a.number, has_from, inr ((into, has_into), e))

  -- and it doesn't lead into the other one
  pub leads_not : (s k x : ℕ) → LiesIn c.heap a.number s → field_at c.heap s k ≡ Some (Slot x)
      → LiesIn c.heap b.number x → ⊥
  leads_not s k x l f i =
      not_above (direct (record { differ = apart; from = s; field = k; to = x; lies = l; leads = f; child_has = i }))

  -- the key of another number
  not_from : (k q : ℕ) → q ≢ a.number → HasNumber t k q → k ≢ from
  not_from k q d h e = let P : ℕ
      → Type 0 = λ z. HasNumber t z q in d (one_number t from q a.number (subst P e h) has_from)

  module _ (cells : Table) (j : Relabels c a.number b.number cells) where
    pub fields_stay : (s k : ℕ) → field_at cells.heap s k ≡ field_at c.heap s k
    fields_stay s k = elim (lies_or_not c.heap a.number s) [
      | inl n ↦ ap (option_and_then (λ (b : Body). slice_get b.fields k)) (j.others s n)
      | inr l ↦
          ap (option_and_then (λ (b : Body). slice_get b.fields k)) (j.moved s l)
          ∙ same_fields (Region b.number) (body_at c.heap s) k
    ]

    pub on_moved : (s : ℕ) → LiesIn c.heap a.number s → LiesIn cells.heap b.number s
    on_moved s l =
        ap (option_map (λ (b : Body). b.label)) (j.moved s l)
        ∙ label_there (Region b.number) (body_at c.heap s) (labelled_held c.heap s (Region a.number) l)

    on_other : (q s : ℕ) → q ≢ a.number → LiesIn c.heap q s → LiesIn cells.heap q s
    on_other q s d l = ap (option_map (λ (b : Body). b.label)) (j.others s (λ i. d
        (one_region c.heap s q a.number l i))) ∙ l

    -- what lies in a region now lay there, or was moved
    pub was_or_moved : (q s : ℕ) → LiesIn cells.heap q s
        → ((q ≢ a.number) × LiesIn c.heap q s) ⊎ ((q ≡ b.number) × LiesIn c.heap a.number s)
    was_or_moved q s l = elim (lies_or_not c.heap a.number s) [
      | inl n ↦
          let i : LiesIn c.heap q s = ap (option_map (λ (b : Body). b.label)) (sym (j.others s n)) ∙ l in
          let P : ℕ → Type 0 = λ z. LiesIn c.heap z s in
          inl ((λ e. n (subst P e i)), i)
      | inr m ↦
          let e = label_only (Region b.number) (Region q) (body_at c.heap s) (ap (option_map (λ (b : Body). b.label))
          (sym (j.moved s m)) ∙ l) in
          inr (region-number q b.number e, m)
    ]

    frozen_on : (s : ℕ) → label_at c.heap s ≡ Some Frozen → label_at cells.heap s ≡ Some Frozen
    frozen_on s l =
        ap (option_map (λ (b : Body). b.label)) (j.others s (λ i. let q : Some Frozen ≡ Some (Region a.number) = sym l
        ∙ i in cc)) ∙ l

    frozen_was : (s : ℕ) → label_at cells.heap s ≡ Some Frozen → label_at c.heap s ≡ Some Frozen
    frozen_was s l = elim (lies_or_not c.heap a.number s) [
      | inl n ↦ ap (option_map (λ (b : Body). b.label)) (sym (j.others s n)) ∙ l
      | inr m ↦ let q : Some Frozen ≡ Some (Region b.number) = sym l ∙ on_moved s m in cc
    ]

    -- a field of another region's cell leads into a region as before, from another region as before
    owned_was : (p q s k x : ℕ) → p ≢ q → LiesIn cells.heap p s → field_at cells.heap s k ≡ Some (Slot x)
        → LiesIn cells.heap q x
        → (q ≢ a.number) × LiesIn c.heap q x × ((p₀ : ℕ) × (p₀ ≢ q) × LiesIn c.heap p₀ s × ((p₀ ≡ p) ⊎ ((p ≡ b.number)
        × (p₀ ≡ a.number))))
    owned_was p q s k x d l f i =
        let lead = sym (fields_stay s k) ∙ f in
        elim (was_or_moved q x i) [
          | inl y ↦ elim (was_or_moved p s l) [
            | inl z ↦ (y.0, y.1, (p, d, z.1, inl refl))
            | inr z ↦ (y.0, y.1, (a.number, (λ e. y.0 (sym e)), z.1, inr (z.0, refl)))
          ]
          | inr y ↦ elim (was_or_moved p s l) [
            | inl z ↦ absurd (alone_from p s k x z.0 z.1 lead y.1)
            | inr z ↦ absurd (d (z.0 ∙ sym y.0))
          ]
        ]

    parent_was : (p q : ℕ) → Parent cells.heap p q → Parent c.heap p q ⊎ ((p ≡ b.number) × Parent c.heap a.number q)
    parent_was p q u =
        let v = owned_was p q u.from u.field u.to u.differ u.lies u.leads u.child_has in
        let parent : Parent c.heap v.2.0 q = record {
          differ = v.2.1;
          from = u.from;
          field = u.field;
          to = u.to;
          lies = v.2.2;
          leads = sym (fields_stay u.from u.field) ∙ u.leads;
          child_has = v.1;
        } in
        let P : ℕ → Type 0 = λ z. Parent c.heap z q in
        elim (v.2.3) [ inl e ↦ inl (subst P e parent) | inr e ↦ inr (e.0, subst P e.1 parent) ]

    -- a chain of parents was one, or passes through the region that takes the cells of the other
    above_was : (p q : ℕ) → Above cells.heap p q
        → Above c.heap p q ⊎ (Above c.heap a.number q × ((p ≡ b.number) ⊎ Above c.heap p b.number))
    above_was p q (direct u) = elim (parent_was p q u) [ inl e ↦ inl (direct e) | inr e ↦ inr (direct e.1, inl e.0) ]
    above_was p q (further {q = m} x u) = elim (above_was p m x) [
      | inl y ↦ elim (parent_was m q u) [
        | inl e ↦ inl (further y e)
        | inr e ↦ let P : ℕ → Type 0 = λ z. Above c.heap p z in inr (direct e.1, inr (subst P e.0 y))
      ]
      | inr y ↦ elim (parent_was m q u) [
        | inl e ↦ inr (further y.0 e, y.1)
        | inr e ↦ let P : ℕ → Type 0 = λ z. Above c.heap a.number z in absurd (not_above (subst P e.0 y.0))
      ]
    ]

    -- counts of the fields that lead to a cell that stays
    referrers_stay : (q x : ℕ) → q ≢ a.number → ((s : ℕ) → LiesIn c.heap a.number s
        → weight q x (body_at cells.heap s) ≡ 0)
        → referrers cells.heap q x ≡ referrers c.heap q x
    referrers_stay q x d none = total_alike (weight q x) refl c.heap.slots cells.heap.slots (λ s. elim
        (lies_or_not c.heap a.number s) [
          | inl n ↦ ap (weight q x) (j.others s n)
          | inr l ↦
              none s l ∙ sym (weighs_none q x (body_at c.heap s) (belongs_not q (body_at c.heap s) (λ i. d
              (one_region c.heap s q a.number i l))))
        ])

    referrers_other : (q x : ℕ) → q ≢ a.number → q ≢ b.number → referrers cells.heap q x ≡ referrers c.heap q x
    referrers_other q x d e = referrers_stay q x d (λ s l.
        weighs_none q x (body_at cells.heap s)
        (belongs_not q (body_at cells.heap s) (λ i. e (one_region cells.heap s q b.number i (on_moved s l)))))

    referrers_into : (x : ℕ) → LiesIn c.heap b.number x → referrers cells.heap b.number x ≡ referrers c.heap b.number x
    referrers_into x i = referrers_stay b.number x (λ e. apart (sym e)) (λ s l.
        weighs_led b.number x (body_at cells.heap s)
        (led_none cells.heap s x (λ k f. leads_not s k x l (sym (fields_stay s k) ∙ f) i)))

    -- what leads to a moved cell are fields of moved cells
    referrers_moved : (x : ℕ) → LiesIn c.heap a.number x
        → led_by cells.heap a.members x ≡ referrers cells.heap b.number x
    referrers_moved x i =
        let m = g.members from a at in
        let all = parted-all (weight b.number x) refl cells.heap.slots a.members (distinct_by a.members m.once) (λ s n.
        elim (lies_or_not cells.heap b.number s) [
          | inl out ↦ weighs_none b.number x (body_at cells.heap s) (belongs_not b.number (body_at cells.heap s) out)
          | inr l ↦ elim (was_or_moved b.number s l) [
            | inl y ↦
                weighs_led b.number x (body_at cells.heap s)
                (led_none cells.heap s x (λ k f. alone_from b.number s k x y.0 y.1 (sym (fields_stay s k) ∙ f) i))
            | inr y ↦ let p = m.all s y.1 in absurd (n (place_has a.members s p.0 p.1))
          ]
        ]) in
        sum-agree (λ s. led x (body_at cells.heap s)) (share (weight b.number x) cells.heap.slots) a.members (λ s n.
        let p = has_place a.members s n in
        sym (weighs b.number x (body_at cells.heap s) (belongs_there cells.heap b.number s (on_moved s
        (m.lie p.0 s p.1)))))
        ∙ all

    module _ (regions : RegionTable) (r : RecordsMerge t regions from into) (marks : Marks c a b cells) where
      room : ℕ
      room = (r.members a b at to).0

      abbrev grown : Record
      grown = record b { members = b.members ++ a.members; room = (r.members a b at to).0 }

      grown_at : record_at regions into ≡ Some grown
      grown_at = (r.members a b at to).1

      -- a record that is there is the grown one, or is as it was
      record_was : (k : ℕ) (z : Record) → record_at regions k ≡ Some z
          → ((k ≡ into) × (z ≡ grown)) ⊎ ((z.number ≢ a.number) × (z.number ≢ b.number) × (record_at t k ≡ Some z))
      record_was k z e = elim (cases_eq k from) [
        | inl q ↦ let v : None ≡ Some z = sym (ap (record_at regions) q ∙ r.gone) ∙ e in cc
        | inr d ↦ elim (cases_eq k into) [
          | inl q ↦ inl (q, same_Some z grown (sym e ∙ ap (record_at regions) q ∙ grown_at))
          | inr f ↦
              let y = sym (r.others k d f).0 ∙ e in
              let h = number_of t k z.number z y refl in
              let P : ℕ → Type 0 = λ n. HasNumber t k n in
              inr (
                (λ n. d (g.numbers k from a.number (subst P n h) has_from)),
                (λ n. f (g.numbers k into b.number
                    (subst P n h) has_into)),
                y,
              )
        ]
      ]

      number_was : (k q : ℕ) → HasNumber regions k q → HasNumber t k q
      number_was k q h =
          let z = record_there (record_at regions k) q h in
          elim (record_was k z.0 z.1) [
            | inl e ↦
                let P : ℕ → Type 0 = λ y. HasNumber t y q in
                let N : ℕ → Type 0 = λ y. HasNumber t into y in
                let n : b.number ≡ q = sym (ap (λ (y : Record). y.number) e.1) ∙ z.2 in
                subst P (sym e.0) (subst N n has_into)
            | inr e ↦ number_of t k q z.0 e.2 z.2
          ]

      number_on : (k q : ℕ) → k ≢ from → HasNumber t k q → HasNumber regions k q
      number_on k q d h = elim (cases_eq k into) [
        | inl e ↦
            let P : ℕ → Type 0 = λ y. HasNumber t y q in
            let n : b.number ≡ q = one_number t into b.number q has_into (subst P e h) in
            number_of regions k q grown (ap (record_at regions) e ∙ grown_at) n
        | inr e ↦ ap (option_map (λ (z : Record). z.number)) (r.others k d e).0 ∙ h
      ]

      bridge_on : (q x : ℕ) → q ≢ a.number → IsBridge t q x → IsBridge regions q x
      bridge_on q x d v =
          let off : v.0 ≢ from = not_from v.0 q d (number_of t v.0 q v.1 v.2 v.3) in
          elim (cases_eq v.0 into) [
            | inl e ↦
                let same : b ≡ v.1 = same_Some b v.1 (sym to ∙ sym (ap (record_at t) e) ∙ v.2) in (
                  into,
                  grown,
                  grown_at,
                  ap (λ (z : Record). z.number) same ∙ v.3,
                  ap (λ (z : Record). z.bridge) same
                      ∙ v.4,
                )
            | inr e ↦ (v.0, v.1, (r.others v.0 off e).0 ∙ v.2, v.3, v.4)
          ]

      members_both : Members cells.heap b.number (b.members ++ a.members)
      members_both =
          let m = g.members into b to in
          let n = g.members from a at in
          let first : (i s : ℕ) → slice_get b.members i ≡ Some s → LiesIn c.heap b.number s = m.lie in
          record {
            lie = λ i s e. elim (of_both b.members a.members i) [
              | inl u ↦ on_other b.number s (λ q. apart (sym q)) (m.lie i s (sym u.0 ∙ e))
              | inr u ↦ on_moved s (n.lie u.0 s (sym u.2 ∙ e))
            ];
            all = λ s l. elim (was_or_moved b.number s l) [
              | inl y ↦ let p = m.all s y.1 in (p.0, of_first b.members a.members p.0 s p.1)
              | inr y ↦ let p = n.all s y.1 in (length b.members + p.0, of_second b.members a.members p.0 s p.1)
            ];
            once = λ i k s e f. elim (of_both b.members a.members i) [
              | inl u ↦ elim (of_both b.members a.members k) [
                | inl v ↦ m.once i k s (sym u.0 ∙ e) (sym v.0 ∙ f)
                | inr v ↦ absurd (apart (one_region c.heap s a.number b.number (n.lie v.0 s (sym v.2
                    ∙ f)) (m.lie i s (sym u.0 ∙ e))))
              ]
              | inr u ↦ elim (of_both b.members a.members k) [
                | inl v ↦ absurd (apart (one_region c.heap s a.number b.number (n.lie u.0 s (sym u.2
                    ∙ e)) (m.lie k s (sym v.0 ∙ f))))
                | inr v ↦ let q = n.once u.0 v.0 s (sym u.2 ∙ e) (sym v.2 ∙ f) in omega (arith, u.1, v.1, q)
              ]
            ];
          }

      pub grove_joined : Grove cells regions
      grove_joined = record {
        numbers = λ k l q x y. g.numbers k l q (number_was k q x) (number_was l q y);
        members = λ k z e. elim (record_was k z e) [
          | inl u ↦ let P : Record
              → Type 0 = λ y. Members cells.heap y.number y.members in subst P (sym u.1) members_both
          | inr u ↦
              let m = g.members k z u.2 in
              record {
                lie = λ i s q. on_other z.number s u.0 (m.lie i s q);
                all = λ s l. elim (was_or_moved z.number s l) [ inl y ↦ m.all s y.1 | inr y ↦ absurd (u.1 y.0) ];
                once = m.once;
              }
        ];
        bridges = λ k s z e f. elim (record_was k z e) [
          | inl u ↦
              let P : Record → Type 0 = λ y. LiesIn cells.heap y.number s in
              let own : LiesIn c.heap b.number s = g.bridges into s b to (sym (ap (λ (y : Record). y.bridge) u.1)
              ∙ f) in
              subst P (sym u.1) (on_other b.number s (λ q. apart (sym q)) own)
          | inr u ↦ on_other z.number s u.0 (g.bridges k s z u.2 f)
        ];
        labels = λ q s l. elim (was_or_moved q s l) [
          | inl y ↦ let k = g.labels q s y.1 in (k.0, number_on k.0 q (not_from k.0 q y.0 k.1) k.1)
          | inr y ↦ (into, number_of regions into q grown grown_at (sym y.0))
        ];
        frozen = λ s k x l f. frozen_on x (g.frozen s k x (frozen_was s l) (sym (fields_stay s k) ∙ f));
        fields = λ p s k x l f.
            let lead = sym (fields_stay s k) ∙ f in
            elim (was_or_moved p s l) [
              | inl y ↦ elim (g.fields p s k x y.1 lead) [
                | inl u ↦ inl (frozen_on x u)
                | inr u ↦ elim u [
                  | inl v ↦ inr (inl (on_other p x y.0 v))
                  | inr v ↦
                      let L : ℕ → Type 0 = λ z. LiesIn c.heap z x in
                      let d : v.0 ≢ a.number = λ e. alone_from p s k x y.0 y.1 lead (subst L e v.2) in
                      inr (inr (v.0, v.1, on_other v.0 x d v.2, bridge_on v.0 x d v.3))
                ]
              ]
              | inr y ↦ elim (g.fields a.number s k x y.1 lead) [
                | inl u ↦ inl (frozen_on x u)
                | inr u ↦ elim u [
                  | inl v ↦ let L : ℕ → Type 0 = λ z. LiesIn cells.heap z x in inr (inl (subst L (sym y.0)
                      (on_moved x v)))
                  | inr v ↦
                      let L : ℕ → Type 0 = λ z. LiesIn c.heap z x in
                      let d : v.0 ≢ p = λ e. leads_not s k x y.1 lead (subst L (e ∙ y.0) v.2) in
                      inr (inr (v.0, d, on_other v.0 x v.1 v.2, bridge_on v.0 x v.1 v.3))
                ]
              ]
            ];
        one_in = λ q p s k x p2 s2 k2 x2 d l f i d2 l2 f2 i2.
            let u = owned_was p q s k x d l f i in
            let v = owned_was p2 q s2 k2 x2 d2 l2 f2 i2 in
            g.one_in q u.2.0 s k x v.2.0 s2 k2 x2 u.2.1 u.2.2 (sym (fields_stay s k) ∙ f) u.1
            v.2.1 v.2.2 (sym (fields_stay s2 k2) ∙ f2) v.1;
        none_into_first = λ p s k x d l f i.
            let u = owned_was p 0 s k x d l f i in
            g.none_into_first u.2.0 s k x u.2.1 u.2.2 (sym (fields_stay s k) ∙ f) u.1;
        no_cycle = λ q e. elim (above_was q q e) [
          | inl u ↦ g.no_cycle q u
          | inr u ↦ elim (u.1) [
            | inl v ↦ let P : ℕ → Type 0 = λ z. Above c.heap a.number z in not_above (subst P v u.0)
            | inr v ↦ not_above (above_both c.heap a.number q b.number u.0 v)
          ]
        ];
        counts = λ k s z e m l. elim (record_was k z e) [
          | inl u ↦
              let L : Record → Type 0 = λ y. LiesIn cells.heap y.number s in
              let R : Record → Type 0 = λ y. mark_at cells s ≡ referrers cells.heap y.number s in
              let count : b.manager ≡ Count = sym (ap (λ (y : Record). y.manager) u.1) ∙ m in
              subst R (sym u.1) (elim (was_or_moved b.number s (subst L u.1 l)) [
                | inl y ↦
                    marks.kept s (λ i. y.0 (one_region c.heap s b.number a.number y.1 i))
                    ∙ g.counts into s b to count y.1 ∙ sym (referrers_into s y.1)
                | inr y ↦ marks.counted s y.1 count ∙ referrers_moved s y.1
              ])
          | inr u ↦ elim (was_or_moved z.number s l) [
            | inl y ↦
                marks.kept s (λ i. y.0 (one_region c.heap s z.number a.number y.1 i))
                ∙ g.counts k s z u.2 m y.1 ∙ sym (referrers_other z.number s u.0 u.1)
            | inr y ↦ absurd (u.1 y.0)
          ]
        ];
        unmarked = λ s n. elim (lies_or_not c.heap a.number s) [
          | inl out ↦ marks.kept s out ∙ g.unmarked s (λ k z e m l.
              let P : ℕ → Type 0 = λ y. LiesIn c.heap y s in
              let d : z.number ≢ a.number = λ q. out (subst P q l) in
              let h = number_of t k z.number z e refl in
              elim (cases_eq k into) [
                | inl q ↦
                    let same : z ≡ b = same_Some z b (sym e ∙ ap (record_at t) q ∙ to) in
                    n into grown grown_at (sym (ap (λ (y : Record). y.manager) same) ∙ m)
                    (on_other b.number s (λ x. apart (sym x)) (subst P (ap (λ (y : Record). y.number) same) l))
                | inr q ↦ n k z ((r.others k (not_from k z.number d h) q).0 ∙ e) m (on_other z.number s d l)
              ])
          | inr l ↦ marks.uncounted s l (λ m. n into grown grown_at m (on_moved s l))
        ];
      }
