-- What is told of cells and regions where some regions are frozen (docs/architecture.md, "Freeze and merge").
use Rattle.std.proofs.Common.{◌≡◌, ℕ, Option, Some, None, IsSome, refl, ap, sym, ◌∙◌, subst, ◌⊎◌, inl, inr}
use Rattle.std.proofs.Common.{option_map, option_and_then, slice_get}
use Rattle.std.proofs.lemmas.Option.{same_Some}
use Rattle.rg_base.specs.declared.object.Label.{Label}
use Rattle.rg_base.specs.declared.object.Label.TheVariants.{Region, Temp, Frozen}
use Rattle.rg_cells.specs.declared.cell.Body.{Body}
use Rattle.rg_cells.specs.Table.{Heap, Table, IsHeld, body_at, field_at}
use Rattle.rg_regions.specs.Table.{Record, RegionTable, record_at, HasNumber, InTable}
use Rattle.rg_regions.specs.Reach.{LiesIn}
use Rattle.rg_regions.specs.Grove.{Grove, Parent}
use Rattle.rg_regions.specs.Same.{IsSameCell}
use Rattle.rg_regions.proofs.Callers.Told.{one_region, record_there, number_of}
use Rattle.rg_move.specs.Frozen.{labelled, IsLabelled}
use Rattle.rg_move.specs.Inner.Freezes.{IsGone, Hardened}

-- a body with another label has its fields, and is there where it was
pub same_fields : (l : Label) (o : Option Body) (k : ℕ)
    → option_and_then (λ (b : Body). slice_get b.fields k) (labelled l o) ≡ option_and_then (λ
    (b : Body). slice_get b.fields k) o
same_fields l None k = refl
same_fields l (Some b) k = refl

pub same_held : (l : Label) (o : Option Body) → IsSome o → IsSome (labelled l o)
same_held l None e = e
same_held l (Some b) e = refl

pub label_there : (l : Label) (o : Option Body) → IsSome o → option_map (λ (b : Body). b.label) (labelled l o) ≡ Some l
label_there l None e = cc
label_there l (Some b) e = refl

-- a label that a body with another label has is that one
pub label_only : (l m : Label) (o : Option Body) → option_map (λ (b : Body). b.label) (labelled l o) ≡ Some m → m ≡ l
label_only l m None e = cc
label_only l m (Some b) e = same_Some m l (sym e)

-- a cell lies in a region, or in none
pub some_region : (h : Heap) (s : ℕ) → ((q : ℕ) × LiesIn h q s) ⊎ ((q : ℕ) → LiesIn h q s → ⊥)
some_region h s = by_body (body_at h s)
  where
    by_label : (l : Label) → ((q : ℕ) × (Some l ≡ Some (Region q))) ⊎ ((q : ℕ) → Some l ≡ Some (Region q) → ⊥)
    by_label (Region q) = inl (q, refl)
    by_label (Temp n) = inr (λ q e. cc)
    by_label Frozen = inr (λ q e. cc)

    by_body : (b : Option Body) → ((q : ℕ) × (option_map (λ (b : Body). b.label) b ≡ Some (Region q)))
        ⊎ ((q : ℕ) → option_map (λ (b : Body). b.label) b ≡ Some (Region q) → ⊥)
    by_body None = inr (λ q e. cc)
    by_body (Some b) = by_label b.label

module _ (c : Table) (t : RegionTable) (cells : Table) (regions : RegionTable) (g : Grove c t)
    (w : Hardened c t cells regions) where
  -- a record that is left was there
  pub record_was : (k : ℕ) (z : Record) → record_at regions k ≡ Some z → record_at t k ≡ Some z
  record_was k z e = elim (w.records k) [ inl q ↦ sym q ∙ e | inr q ↦ let v : None ≡ Some z = sym q ∙ e in cc ]

  pub number_was : (k n : ℕ) → HasNumber regions k n → HasNumber t k n
  number_was k n h = let r = record_there (record_at regions k) n h in number_of t k n r.0 (record_was k r.0 r.1) r.2

  -- a region with a key hasn't gone
  pub not_gone : (k q : ℕ) → HasNumber regions k q → IsGone t regions q → ⊥
  not_gone k q h a =
      let e : a.0 ≡ k = g.numbers a.0 k q a.1 (number_was k q h) in
      let v : None ≡ Some q = sym (ap (option_map (λ (z : Record). z.number)) (ap (record_at regions) (sym e) ∙ a.2))
      ∙ h in
      cc

  -- a key of the table is left, or its region has gone
  pub left_or_gone : (k q : ℕ) → HasNumber t k q → IsGone t regions q ⊎ HasNumber regions k q
  left_or_gone k q h = elim (w.records k) [
    | inl e ↦ inr (ap (option_map (λ (z : Record). z.number)) e ∙ h)
    | inr e ↦ inl (k, h, e)
  ]

  -- a cell of a region that hasn't gone is as it was
  pub same_here : (q s : ℕ) → (IsGone t regions q → ⊥) → LiesIn c.heap q s → IsSameCell c cells s
  same_here q s n l = w.others s (λ p a i. let P : ℕ
      → Type 0 = λ z. IsGone t regions z in n (subst P (one_region c.heap s p q i l) a))

  pub lies_on : (q s : ℕ) → (IsGone t regions q → ⊥) → LiesIn c.heap q s → LiesIn cells.heap q s
  lies_on q s n l = ap (option_map (λ (b : Body). b.label)) (same_here q s n l).0 ∙ l

  -- a cell's region has gone, or the cell lies in it as before
  pub gone_or_here : (q s : ℕ) → LiesIn c.heap q s → IsGone t regions q ⊎ (InTable regions q × LiesIn cells.heap q s)
  gone_or_here q s l =
      let k = g.labels q s l in
      elim (left_or_gone k.0 q k.1) [
        | inl a ↦ inl a
        | inr h ↦ inr ((k.0, h), lies_on q s (not_gone k.0 q h) l)
      ]

  -- a cell was frozen, or is as it was
  pub either : (s : ℕ) → ((q : ℕ) × IsGone t regions q × LiesIn c.heap q s × IsLabelled Frozen c cells s)
      ⊎ (((q : ℕ) → LiesIn c.heap q s → IsGone t regions q → ⊥) × IsSameCell c cells s)
  either s = elim (some_region c.heap s) [
    | inl l ↦ elim (gone_or_here l.0 s l.1) [
      | inl a ↦ inl (l.0, a, l.1, w.froze l.0 s a l.1)
      | inr h ↦
          let k = h.0 in
          let n : IsGone t regions l.0 → ⊥ = not_gone k.0 l.0 k.1 in
          let P : ℕ → Type 0 = λ z. IsGone t regions z in
          inr ((λ q i a. n (subst P (one_region c.heap s q l.0 i l.1) a)), same_here l.0 s n l.1)
    ]
    | inr n ↦ inr ((λ q i a. n q i), w.others s (λ q a i. n q i))
  ]

  pub fields_same : (s k : ℕ) → field_at cells.heap s k ≡ field_at c.heap s k
  fields_same s k = elim (either s) [
    | inl a ↦ ap (option_and_then (λ (b : Body). slice_get b.fields k)) a.3.0 ∙ same_fields Frozen (body_at c.heap s) k
    | inr a ↦ ap (option_and_then (λ (b : Body). slice_get b.fields k)) a.1.0
  ]

  pub held_on : (s : ℕ) → IsHeld c.heap s → IsHeld cells.heap s
  held_on s e = elim (either s) [
    | inl a ↦ let P : Option Body
        → Type 0 = λ o. IsSome o in subst P (sym a.3.0) (same_held Frozen (body_at c.heap s) e)
    | inr a ↦ let P : Option Body → Type 0 = λ o. IsSome o in subst P (sym a.1.0) e
  ]

  -- what lies in a region now did so before, and the region hasn't gone
  pub lay : (q s : ℕ) → LiesIn cells.heap q s → LiesIn c.heap q s × (IsGone t regions q → ⊥)
  lay q s l = elim (either s) [
    | inl a ↦
        let e : Region q ≡ Frozen =
        label_only Frozen (Region q) (body_at c.heap s) (ap (option_map (λ (b : Body). b.label)) (sym a.3.0) ∙ l) in
        cc
    | inr a ↦ let o = ap (option_map (λ (b : Body). b.label)) (sym a.1.0) ∙ l in (o, a.0 q o)
  ]

  pub in_table : (q s : ℕ) → LiesIn cells.heap q s → InTable regions q
  in_table q s l =
      let o = lay q s l in
      elim (gone_or_here q s o.0) [ inl a ↦ absurd (o.1 a) | inr h ↦ h.0 ]

  pub parent_was : (p q : ℕ) → Parent cells.heap p q → Parent c.heap p q
  parent_was p q a = record {
    differ = a.differ;
    from = a.from;
    field = a.field;
    to = a.to;
    lies = (lay p a.from a.lies).0;
    leads = sym (fields_same a.from a.field) ∙ a.leads;
    child_has = (lay q a.to a.child_has).0;
  }
