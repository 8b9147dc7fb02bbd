-- The regions beneath another one, in the heap and in the store that it shows.
use Rattle.std.proofs.Common.{◌≡◌, ◌≢◌, ◌<◌, ◌⊎◌, inl, inr, ℕ, true, List, map, Option, Some, None, option_map, option_and_then}
use Rattle.std.proofs.Common.{slice_get, refl, sym, ap, ◌∙◌, subst, arith}
use Rattle.std.proofs.lemmas.Bool.{cases_eq}
use Rattle.std.proofs.lemmas.Option.{none-some, same_Some, slice_get-map, slice_get_within}
use Rattle.rg_base.specs.declared.object.Label.{Label}
use Rattle.rg_base.specs.declared.object.Label.TheVariants.{Region}
use Rattle.rg_base.specs.declared.object.Seen.{Seen}
use Rattle.rg_base.specs.declared.value.Val.{Val}
use Rattle.rg_base.specs.declared.value.Val.TheVariants as val
use Rattle.rg_base.specs.declared.value.Word.{Word}
use Rattle.rg_base.specs.declared.value.Word.TheVariants as word
use Rattle.rg_rules.specs.Regions.{among, region_of, region_at}
use Rattle.rg_sound.proofs.LocalRoots.{label-region}
use Rattle.rg_cells.specs.declared.cell.Body.{Body}
use Rattle.rg_cells.specs.Table.{Heap, body_at, label_at, Serials}
use Rattle.rg_regions.specs.Table.{RegionTable, InTable}
use Rattle.rg_regions.specs.Reach.{LiesIn}
use Rattle.rg_regions.specs.Grove.{Parent, Above, direct, further}
use Rattle.rg_heap.specs.Answers.{val_of, obj_of}
use Rattle.rg_view.specs.View.{object_of, seen_of, store_of}
use Rattle.rg_view.specs.Names.{Names}
use Rattle.rg_view.specs.Links.{Link, Reached, first, next, Spans, BelowSome}
use Rattle.rg_view.proofs.Callers.Look.{look, store-at, store-held, store-length, val-held}
use Rattle.rg_view.proofs.Callers.Shown.{field-in}
use Rattle.rg_held.specs.Gone.{gone}

-- a link from its parts
abbrev pub link-at : {store : List Seen} {p r : ℕ} (object : ℕ) (holder : Seen) (field address : ℕ) → slice_get store object ≡ Some holder
    → holder.label ≡ Region p → slice_get holder.fields field ≡ Some (val.Obj address) → region_at store address ≡ Some r → Link store p r
link-at object holder field address there lies value leads = record {
  object = object;
  holder = holder;
  there = there;
  lies = lies;
  field = field;
  address = address;
  value = value;
  leads = leads;
}

-- a held cell whose object is shown
pub record HeldAs (h : Heap) (a : ℕ) (o : Seen) : Type 0 where
  pub slot : ℕ
  pub body : Body
  pub held : body_at h slot ≡ Some body
  pub serial : body.serial ≡ a
  pub shown : o ≡ object_of h (Some body)

-- an object of the store is that of a held cell, or gone
pub store-back : (h : Heap) (a : ℕ) (o : Seen) → slice_get (store_of h) a ≡ Some o → HeldAs h a o ⊎ (o ≡ gone)
store-back h a o e =
    let lt : a < h.next = let w = slice_get_within (store_of h) a o e in omega (arith, w, store-length h) in
    let same : o ≡ seen_of h a = same_Some o (seen_of h a) (sym e ∙ store-at h a lt) in
    elim (look h a) [
      | inl here ↦ inl (record {
        slot = here.slot;
        body = here.body;
        held = here.held;
        serial = here.serial;
        shown = same ∙ here.shown;
      })
      | inr missing ↦ inr (same ∙ missing.shown)
    ]

-- a word that shows a serial is a reference to a held cell that has it
pub record RefersTo (h : Heap) (w : Word) (a : ℕ) : Type 0 where
  pub slot : ℕ
  pub body : Body
  pub is : w ≡ word.Slot slot
  pub held : body_at h slot ≡ Some body
  pub serial : body.serial ≡ a

pub val-back : (h : Heap) (w : Word) (a : ℕ) → val_of h w ≡ val.Obj a → RefersTo h w a
val-back h word.Nil a e = absurd cc
val-back h (word.Int z) a e = absurd cc
val-back h (word.Bool b) a e = absurd cc
val-back h (word.Slot s) a e = by (body_at h s) refl
  where
    serial-is : (b : Body) → val.Obj b.serial ≡ val.Obj a → b.serial ≡ a
    serial-is b q = cc

    by : (o : Option Body) → body_at h s ≡ o → RefersTo h (word.Slot s) a
    by None f = let c : val.Nil ≡ val.Obj a = sym (ap obj_of f) ∙ e in absurd cc
    by (Some b) f = record { slot = s; body = b; is = refl; held = f; serial = serial-is b (sym (ap obj_of f) ∙ e) }

-- a value in a list of shown words
pub word-back : (h : Heap) (ws : List Word) (k : ℕ) (x : Val) → slice_get (map (val_of h) ws) k ≡ Some x
    → (w : Word) × (slice_get ws k ≡ Some w) × (val_of h w ≡ x)
word-back h ws k x e = by (slice_get ws k) refl
  where
    by : (o : Option Word) → slice_get ws k ≡ o → (w : Word) × (slice_get ws k ≡ Some w) × (val_of h w ≡ x)
    by None f = absurd (none-some x (sym (slice_get-map (val_of h) ws k ∙ ap (option_map (val_of h)) f) ∙ e))
    by (Some w) f =
        (w, f, same_Some (val_of h w) x (sym (slice_get-map (val_of h) ws k ∙ ap (option_map (val_of h)) f) ∙ e))

pub gone-region : (r : ℕ) → gone.label ≡ Region r → ⊥
gone-region r e = let c : None ≡ Some r = ap region_of e in none-some r c

pub label-in : (h : Heap) (s : ℕ) (b : Body) (l : Label) → body_at h s ≡ Some b → b.label ≡ l → label_at h s ≡ Some l
label-in h s b l e is = ap (option_map (λ (b : Body). b.label)) e ∙ ap Some is

-- the region at an address is that of a held cell
pub region-back : (h : Heap) (a r : ℕ) → Serials h → region_at (store_of h) a ≡ Some r → (s : ℕ) × (b : Body) × (body_at h s ≡ Some b)
    × (b.serial ≡ a) × LiesIn h r s
region-back h a r q e = by (slice_get (store_of h) a) refl
  where
    by : (o : Option Seen) → slice_get (store_of h) a ≡ o → (s : ℕ) × (b : Body) × (body_at h s ≡ Some b) × (b.serial ≡ a) × LiesIn h r s
    by None f = absurd (none-some r (sym (ap (option_and_then (λ (o : Seen). region_of o.label)) f) ∙ e))
    by (Some o) f =
        let lies : o.label ≡ Region r = label-region o.label r (sym (ap (option_and_then (λ (o : Seen). region_of o.label)) f) ∙ e) in
        elim (store-back h a o f) [
          | inl x ↦
              (x.slot, x.body, x.held, x.serial, label-in h x.slot x.body (Region r) x.held (sym (ap (λ (o : Seen). o.label) x.shown) ∙ lies))
          | inr x ↦ absurd (gone-region r (sym (ap (λ (o : Seen). o.label) x) ∙ lies))
        ]

pub region-there : (h : Heap) (s r : ℕ) (b : Body) → Serials h → body_at h s ≡ Some b → LiesIn h r s
    → region_at (store_of h) b.serial ≡ Some r
region-there h s r b q e lies =
    let is : b.label ≡ Region r = same_Some b.label (Region r) (sym (ap (option_map (λ (b : Body). b.label)) e) ∙ lies) in
    ap (option_and_then (λ (o : Seen). region_of o.label)) (store-held h s b q e) ∙ ap region_of is

-- a link between two regions is a field of a cell of the one that leads to a cell of the other
pub link-parent : (h : Heap) (p r : ℕ) → Serials h → p ≢ r → Link (store_of h) p r → Parent h p r
link-parent h p r q d l = elim (store-back h l.object l.holder l.there) [
  | inl x ↦
      let fields : map (val_of h) x.body.fields ≡ l.holder.fields = sym (ap (λ (o : Seen). o.fields) x.shown) in
      let w = word-back h x.body.fields l.field (val.Obj l.address) (ap (λ vs. slice_get vs l.field) fields ∙ l.value) in
      let to = val-back h w.0 l.address w.2 in
      let end = region-back h l.address r q l.leads in
      let at : to.slot ≡ end.0 = q.differ to.slot end.0 to.body end.1 to.held end.2 (to.serial ∙ sym end.3) in
      record {
        differ = d;
        from = x.slot;
        field = l.field;
        to = to.slot;
        lies = label-in h x.slot x.body (Region p) x.held (sym (ap (λ (o : Seen). o.label) x.shown) ∙ l.lies);
        leads = field-in h x.slot l.field x.body x.held ∙ w.1 ∙ ap Some to.is;
        child_has = subst (LiesIn h r) (sym at) end.4;
      }
  | inr x ↦ absurd (gone-region p (sym (ap (λ (o : Seen). o.label) x) ∙ l.lies))
]

-- and the other way round
pub parent-link : (h : Heap) (p r : ℕ) → Serials h → Parent h p r → Link (store_of h) p r
parent-link h p r q a = by (body_at h a.from) refl (body_at h a.to) refl
  where
    by : (o : Option Body) → body_at h a.from ≡ o → (u : Option Body) → body_at h a.to ≡ u → Link (store_of h) p r
    by None e u f = absurd (none-some (Region p) (sym (ap (option_map (λ (b : Body). b.label)) e) ∙ a.lies))
    by (Some b) e None f = absurd (none-some (Region r) (sym (ap (option_map (λ (b : Body). b.label)) f) ∙ a.child_has))
    by (Some b) e (Some c) f = record {
      object = b.serial;
      holder = object_of h (Some b);
      there = store-held h a.from b q e;
      lies = same_Some b.label (Region p) (sym (ap (option_map (λ (b : Body). b.label)) e) ∙ a.lies);
      field = a.field;
      address = c.serial;
      value =
          slice_get-map (val_of h) b.fields a.field
          ∙ ap (option_map (val_of h)) (sym (field-in h a.from a.field b e) ∙ a.leads)
          ∙ ap Some (val-held h a.to c f);
      leads = region-there h a.to r c q f a.child_has;
    }

module _ (h : Heap) (t : RegionTable) (tops regions : List ℕ) (q : Serials h) (labels : (r s : ℕ) → LiesIn h r s → InTable t r)
    (spans : Spans (store_of h) tops regions) where
  reached-below : {r : ℕ} → Reached (store_of h) tops r → BelowSome h t tops r
  reached-below (first {r = r} i) = (r, i, inl refl)
  reached-below (next {p = p} {r = r} before l) = elim (cases_eq p r) [
    | inl same ↦ subst (BelowSome h t tops) same (reached-below before)
    | inr d ↦
        let a = link-parent h p r q d l in
        let known : InTable t r = labels r a.to a.child_has in
        let b = reached-below before in
        elim b.2 [
          | inl is ↦ (b.0, b.1, inr (known, subst (λ x. Above h x r) is (direct a)))
          | inr x ↦ (b.0, b.1, inr (known, further x.1 a))
        ]
  ]

  above-among : {p r : ℕ} → Above h p r → among regions p ≡ true → among regions r ≡ true
  above-among (direct {p = p} {r = r} a) i = spans.along p r i (parent-link h p r q a)
  above-among (further {p = p} {q = m} {r = r} x a) i = spans.along m r (above-among x i) (parent-link h m r q a)

  -- a list that names what links reach names these regions and all beneath them
  pub spans-below : Names regions (BelowSome h t tops)
  spans-below = record {
    all = λ r b. elim b.2 [
      | inl is ↦ ap (among regions) is ∙ spans.start b.0 b.1
      | inr x ↦ above-among x.1 (spans.start b.0 b.1)
    ];
    only = λ r i. reached-below (spans.only r i);
  }
