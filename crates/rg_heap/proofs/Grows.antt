-- A cell comes whose fields are numbers, truth values and nil: the forest stays one (docs/architecture.md, "The heap").
use Rattle.std.proofs.Common.{◌≡◌, ◌≢◌, ℕ, suc, Bool, false, true, cond, List, [], ◌∷◌, Option, Some, None, refl, ap, sym, ◌∙◌}
use Rattle.std.proofs.Common.{subst, inl, inr, option_map, option_and_then, slice_get, count_by}
use Rattle.std.proofs.lemmas.Bool.{cases_eq}
use Rattle.std.proofs.lemmas.Option.{same_Some}
use Rattle.rg_base.specs.declared.object.Label.TheVariants.{Region, Frozen}
use Rattle.rg_base.specs.declared.value.Word.{Word}
use Rattle.rg_base.specs.declared.value.Word.TheVariants.{Nil, Int, Bool as Truth, Slot}
use Rattle.rg_cells.specs.declared.cell.Body.{Body}
use Rattle.rg_cells.specs.Table.{Table, Made, body_at, field_at, label_at, mark_at}
use Rattle.rg_regions.specs.Table.{Record, RegionTable, record_at, InTable}
use Rattle.rg_regions.specs.Reach.{LiesIn, belongs}
use Rattle.rg_regions.specs.Grove.{Grove, Members, Parent, referrers, leads_to}
use Rattle.rg_regions.proofs.Callers.Told.{lies_or_not}
use Rattle.rg_regions.proofs.Callers.Fewer.{total_alike, belongs_not, weight, above_by, parent_by}
use Rattle.rg_regions.proofs.Callers.RegionComes.{none_leads as none_lead_to}
use Rattle.rg_regions.proofs.Callers.Beside.{Beside, beside, not_to, leads_on}
use Rattle.rg_count.proofs.Written.{referrers-made}
use Rattle.rg_heap.specs.Changes.{LeadsNowhere}
use Rattle.rg_heap.proofs.Kin.{IsKin, Kin, kin_of}

-- a cell comes at a slot that wasn't held, and records stay but for members and room
pub record Grows (c : Table) (t : RegionTable) (cells : Table) (regions : RegionTable) (slot : ℕ) (b : Body) : Type 0 where
  pub vacant : body_at c.heap slot ≡ None
  pub made : Made c cells slot b
  pub plain : LeadsNowhere b.fields
  pub known : (q : ℕ) → b.label ≡ Region q → InTable t q
  pub back : (k : ℕ) (z : Record) → record_at regions k ≡ Some z → (y : Record) × (record_at t k ≡ Some y) × IsKin y z
  pub on : (k : ℕ) (y : Record) → record_at t k ≡ Some y → (z : Record) × (record_at regions k ≡ Some z) × IsKin y z
  pub members : (k : ℕ) (z : Record) → record_at regions k ≡ Some z → Members cells.heap z.number z.members

-- words that lead nowhere don't lead to a slot
none_leads : (s : ℕ) (ws : List Word) → LeadsNowhere ws → count_by (leads_to s) ws ≡ 0
none_leads s [] h = refl
none_leads s (Nil ∷ ws) h = none_leads s ws (λ k. h (suc k))
none_leads s (Int i ∷ ws) h = none_leads s ws (λ k. h (suc k))
none_leads s (Truth b ∷ ws) h = none_leads s ws (λ k. h (suc k))
none_leads s (Slot x ∷ ws) h = absurd (h 0 x refl)

cond_none : (x : Bool) (n : ℕ) → n ≡ 0 → cond {A = ℕ} x n 0 ≡ 0
cond_none false n e = refl
cond_none true n e = e

module _ (c : Table) (t : RegionTable) (cells : Table) (regions : RegionTable) (slot : ℕ) (b : Body)
    (g : Grove c t) (w : Grows c t cells regions slot b) where
  near : Beside c cells slot
  near = beside c cells slot b w.made w.vacant

  -- a field that leads somewhere is one of a cell that was there
  lead_back : (s k to : ℕ) → field_at cells.heap s k ≡ Some (Slot to) → (s ≢ slot) × (field_at c.heap s k ≡ Some (Slot to))
  lead_back s k to f = elim (cases_eq s slot) [
    | inl e ↦
        let P : ℕ → Type 0 = λ z. field_at cells.heap z k ≡ Some (Slot to) in
        absurd (w.plain k to (sym (ap (option_and_then (λ (b : Body). slice_get b.fields k)) w.made.body) ∙ subst P e f))
    | inr d ↦ (d, sym (ap (option_and_then (λ (b : Body). slice_get b.fields k)) (near.same s d)) ∙ f)
  ]

  record Leads (p s k to : ℕ) : Type 0 where
    lies : LiesIn c.heap p s
    leads : field_at c.heap s k ≡ Some (Slot to)
    other : to ≢ slot

  leads_back : (p s k to : ℕ) → LiesIn cells.heap p s → field_at cells.heap s k ≡ Some (Slot to) → Leads p s k to
  leads_back p s k to l f =
      let a = lead_back s k to f in
      let b = near.label_back s (Region p) a.0 l in
      record { lies = b; leads = a.1; other = not_to c cells t slot g near p s k to b a.1 }

  parent_back : (p q : ℕ) → Parent cells.heap p q → Parent c.heap p q
  parent_back p q e =
      let a = leads_back p e.from e.field e.to e.lies e.leads in
      parent_by c.heap cells.heap p q e a.lies a.leads (near.label_back e.to (Region q) a.other e.child_has)

  kin : Kin t regions
  kin = kin_of t regions w.back w.on

  referrers_on : (q s : ℕ) → referrers cells.heap q s ≡ referrers c.heap q s
  referrers_on q s = referrers-made c cells slot q s b w.made w.vacant (none_leads s b.fields w.plain)

  -- no field of a region's cells leads to a slot that isn't held
  referrers_none : (q : ℕ) → referrers c.heap q slot ≡ 0
  referrers_none q = total_alike (weight q slot) refl [] c.heap.slots (λ n. elim (lies_or_not c.heap q n) [
    | inl out ↦ by_belongs (body_at c.heap n) (belongs_not q (body_at c.heap n) out)
    | inr l ↦ by_body n l (body_at c.heap n) refl
  ])
    where
      by_belongs : (x : Option Body) → belongs q x ≡ false → weight q slot x ≡ 0
      by_belongs x e = rw e refl

      by_body : (n : ℕ) → LiesIn c.heap q n → (x : Option Body) → body_at c.heap n ≡ x → weight q slot (body_at c.heap n) ≡ 0
      by_body n l None e = ap (weight q slot) e
      by_body n l (Some x) e =
          ap (weight q slot) e
          ∙ cond_none (belongs q (Some x)) (count_by (leads_to slot) x.fields) (none_lead_to slot x.fields (λ k f.
          not_to c cells t slot g near q n k slot l (ap (option_and_then (λ (b : Body). slice_get b.fields k)) e ∙ f) refl))

  pub grove_grows : Grove cells regions
  grove_grows = record {
    numbers = λ k o n x y. g.numbers k o n (kin.number_back k n x) (kin.number_back o n y);
    members = w.members;
    bridges = λ k s z a e.
        let y = w.back k z a in
        let L : ℕ → Type 0 = λ n. LiesIn c.heap n s in
        near.label_on s (Region z.number) (subst L y.2.number (g.bridges k s y.0 y.1 (y.2.bridge ∙ e)));
    labels = λ r s l. elim (cases_eq s slot) [
      | inl e ↦
          let P : ℕ → Type 0 = λ z. label_at cells.heap z ≡ Some (Region r) in
          let a = w.known r (same_Some b.label (Region r) (sym (ap (option_map (λ (b : Body). b.label)) w.made.body) ∙ subst P e l)) in
          (a.0, kin.number_on a.0 r a.1)
      | inr d ↦ let a = g.labels r s (near.label_back s (Region r) d l) in (a.0, kin.number_on a.0 r a.1)
    ];
    frozen = λ s k to l f. let a = lead_back s k to f in near.label_on to Frozen (g.frozen s k to (near.label_back s Frozen a.0 l) a.1);
    fields = λ p s k to l f.
        let a = leads_back p s k to l f in
        leads_on c cells t regions near.label_on kin.bridge_on p to (g.fields p s k to a.lies a.leads);
    one_in = λ q p s k to p2 s2 k2 to2 d l f i d2 l2 f2 i2.
        let a = leads_back p s k to l f in
        let a2 = leads_back p2 s2 k2 to2 l2 f2 in
        g.one_in q p s k to p2 s2 k2 to2 d a.lies a.leads (near.label_back to (Region q) a.other i)
        d2 a2.lies a2.leads (near.label_back to2 (Region q) a2.other i2);
    none_into_first = λ p s k to d l f i.
        let a = leads_back p s k to l f in
        g.none_into_first p s k to d a.lies a.leads (near.label_back to (Region 0) a.other i);
    no_cycle = λ r a. g.no_cycle r (above_by c.heap cells.heap parent_back r r a);
    counts = λ k s z a m l.
        let y = w.back k z a in
        elim (cases_eq s slot) [
          | inl e ↦
              let P : ℕ → Type 0 = λ x. mark_at cells x ≡ referrers cells.heap z.number x in
              subst P (sym e) (w.made.mark ∙ sym (referrers_on z.number slot ∙ referrers_none z.number))
          | inr d ↦
              let L : ℕ → Type 0 = λ n. LiesIn c.heap n s in
              let x = g.counts k s y.0 y.1 (y.2.manager ∙ m) (subst L (sym y.2.number) (near.label_back s (Region z.number) d l)) in
              w.made.marks s d ∙ x ∙ ap (λ n. referrers c.heap n s) y.2.number ∙ sym (referrers_on z.number s)
        ];
    unmarked = λ s n. elim (cases_eq s slot) [
      | inl e ↦ ap (mark_at cells) e ∙ w.made.mark
      | inr d ↦ w.made.marks s d ∙ g.unmarked s (λ k y a m l.
          let z = w.on k y a in
          let L : ℕ → Type 0 = λ n. LiesIn cells.heap n s in
          n k z.0 z.1 (sym z.2.manager ∙ m) (subst L z.2.number (near.label_on s (Region y.number) l)))
    ];
  }
