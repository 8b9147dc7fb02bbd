-- What holds where cells went and none came: each body is as it was, or there is none (docs/architecture.md,
-- "Regions").
use Rattle.std.proofs.Common.{◌≡◌, ◌≢◌, ℕ, suc, true, false, cond, List, [], ◌∷◌, Option, Some, None, get_or, refl, ap}
use Rattle.std.proofs.Common.{sym, ◌∙◌}
use Rattle.std.proofs.Common.{arith, ◌⊎◌, inl, inr, option_map, option_and_then, slice_get, count_by, eq-eqb}
use Rattle.std.proofs.lemmas.Bool.Decides.{eqb_tells}
use Rattle.rg_base.specs.declared.object.Label.{Label}
use Rattle.rg_base.specs.declared.object.Label.TheVariants.{Region, Temp, Frozen}
use Rattle.rg_base.specs.declared.value.Word.{Word}
use Rattle.rg_base.specs.declared.value.Word.TheVariants.{Slot}
use Rattle.rg_cells.specs.declared.cell.Body.{Body}
use Rattle.rg_cells.specs.Table.{Heap, Table, field_at, body_at, body_in, label_at, total}
use Rattle.rg_regions.specs.Reach.{LiesIn, belongs, is_region}
use Rattle.rg_regions.specs.Grove.{Parent, Above, direct, further, referrers, leads_to}
use Rattle.rg_regions.proofs.Callers.Told.{one_region, lies_or_not}

-- labels, fields, parents and chains of parents were there before
pub label_before : (h new : Heap) (s : ℕ) (l : Label) → (body_at new s ≡ body_at h s) ⊎ (body_at new s ≡ None)
    → label_at new s ≡ Some l → label_at h s ≡ Some l
label_before h new s l sub e = elim sub [
  | inl q ↦ ap (option_map (λ (b : Body). b.label)) (sym q) ∙ e
  | inr q ↦ let z : None ≡ Some l = sym (ap (option_map (λ (b : Body). b.label)) q) ∙ e in cc
]

pub field_before : (h new : Heap) (s k : ℕ) (w : Word) → (body_at new s ≡ body_at h s) ⊎ (body_at new s ≡ None)
    → field_at new s k ≡ Some w → field_at h s k ≡ Some w
field_before h new s k w sub e = elim sub [
  | inl q ↦ ap (option_and_then (λ (b : Body). slice_get b.fields k)) (sym q) ∙ e
  | inr q ↦ let z : None ≡ Some w = sym (ap (option_and_then (λ (b : Body). slice_get b.fields k)) q) ∙ e in cc
]

-- a field that leads on is told of both its ends and itself
pub parent_by : (h new : Heap) (p q : ℕ) (w : Parent new p q) → LiesIn h p w.from → field_at h w.from w.field ≡ Some (Slot w.to)
    → LiesIn h q w.to → Parent h p q
parent_by h new p q w lies leads child = record {
  differ = w.differ;
  from = w.from;
  field = w.field;
  to = w.to;
  lies = lies;
  leads = leads;
  child_has = child;
}

-- chains of parents, link by link
pub above_by : (h new : Heap) → ((p q : ℕ) → Parent new p q → Parent h p q) → (p q : ℕ) → Above new p q → Above h p q
above_by h new f p q (direct w) = direct (f p q w)
above_by h new f p q (further {q = m} a w) = further (above_by h new f p m a) (f m q w)

pub parent_before : (h new : Heap) → ((s : ℕ) → (body_at new s ≡ body_at h s) ⊎ (body_at new s ≡ None))
    → (p q : ℕ) → Parent new p q → Parent h p q
parent_before h new sub p q w =
    parent_by h new p q w (label_before h new w.from (Region p) (sub w.from) w.lies)
    (field_before h new w.from w.field (Slot w.to) (sub w.from) w.leads)
    (label_before h new w.to (Region q) (sub w.to) w.child_has)

pub above_before : (h new : Heap) → ((s : ℕ) → (body_at new s ≡ body_at h s) ⊎ (body_at new s ≡ None))
    → (p q : ℕ) → Above new p q → Above h p q
above_before h new sub = above_by h new (parent_before h new sub)

-- chains of parents, one behind the other
pub above_both : (h : Heap) (p q r : ℕ) → Above h p q → Above h q r → Above h p r
above_both h p q r a (direct w) = further a w
above_both h p q r a (further {q = m} b w) = further (above_both h p q m a b) w

-- what a slot weighs where the fields of a region's cells that lead to x are counted
abbrev pub weight : ℕ → ℕ → Option Body → ℕ
weight q x o = cond (belongs q o) (elim o [ None ↦ 0 | Some y ↦ count_by (leads_to x) y.fields ]) 0

pub weighs_none : (q x : ℕ) (o : Option Body) → belongs q o ≡ false → weight q x o ≡ 0
weighs_none q x o e = rw e refl

-- totals of lists that weigh the same at each place
pub total_alike : (f : Option Body → ℕ) → f None ≡ 0 → (xs ys : List (Option (Option Body)))
    → ((k : ℕ) → f (body_in (get_or ys k None)) ≡ f (body_in (get_or xs k None))) → total f ys ≡ total f xs
total_alike f z [] [] h = refl
total_alike f z [] (y ∷ ys) h = let a = h 0 in omega (arith, a, z, total_alike f z [] ys (λ k. h (suc k)))
total_alike f z (x ∷ xs) [] h = let a = h 0 in omega (arith, a, z, total_alike f z xs [] (λ k. h (suc k)))
total_alike f z (x ∷ xs) (y ∷ ys) h = let a = h 0 in omega (arith, a, total_alike f z xs ys (λ k. h (suc k)))

-- a cell of another region, or of none, isn't counted
pub belongs_not : (q : ℕ) (b : Option Body) → (option_map (λ (b : Body). b.label) b ≡ Some (Region q) → ⊥)
    → belongs q b ≡ false
belongs_not q None n = refl
belongs_not q (Some b) n = by_label b.label n
  where
    by_label : (l : Label) → (Some l ≡ Some (Region q) → ⊥) → is_region q l ≡ false
    by_label (Region p) n = elim (eqb_tells q p)
        [ inl e ↦ absurd (n (ap (λ k. Some (Region k)) (sym e.1))) | inr e ↦ e.0 ]
    by_label (Temp m) n = refl
    by_label Frozen n = refl

-- a cell of the region is counted
pub lies_belongs : (r : ℕ) (b : Option Body) → option_map (λ (b : Body). b.label) b ≡ Some (Region r)
    → belongs r b ≡ true
lies_belongs r None e = cc
lies_belongs r (Some b) e = let h : b.label ≡ Region r = cc in ap (is_region r) h ∙ eq-eqb r r refl

-- where cells of one region went, the number of fields that lead to a cell of another region stays
pub referrers_kept : (c cells : Table) (r q s : ℕ) → q ≢ r
    → ((n : ℕ) → (body_at cells.heap n ≡ body_at c.heap n) ⊎ (body_at cells.heap n ≡ None))
    → ((n : ℕ) → (LiesIn c.heap r n → ⊥) → body_at cells.heap n ≡ body_at c.heap n)
    → referrers cells.heap q s ≡ referrers c.heap q s
referrers_kept c cells r q s d sub far =
    let F : Option Body → ℕ = λ b. cond (belongs q b)
    (elim b [ None ↦ 0 | Some b ↦ count_by (leads_to s) b.fields ]) 0 in
    total_alike F refl c.heap.slots cells.heap.slots (λ n. elim (lies_or_not c.heap r n) [
      | inl out ↦ ap F (far n out)
      | inr l ↦ elim (sub n) [
        | inl same ↦ ap F same
        | inr gone ↦ ap F gone ∙ sym (nothing (body_at c.heap n)
            (belongs_not q (body_at c.heap n) (λ y. d (one_region c.heap n q r y l))))
      ]
    ])
  where
    nothing : (b : Option Body) → belongs q b ≡ false
        → cond {A = ℕ} (belongs q b) (elim b [ None ↦ 0 | Some b ↦ count_by (leads_to s) b.fields ]) 0 ≡ 0
    nothing b e = rw e refl
