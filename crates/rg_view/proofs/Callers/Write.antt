-- What is shown where a field is written: that field of that object.
use Rattle.std.proofs.Common.{◌≡◌, ◌≢◌, inl, inr, ℕ, zero, suc, List, [], ◌∷◌, Option, Some, None, slice_get, slice_set}
use Rattle.std.proofs.Common.{slice_index_or, refl, sym, ap, ◌∙◌, arith}
use Rattle.std.proofs.lemmas.Bool.{cases_eq, cases_lt}
use Rattle.std.proofs.lemmas.Option.{none-some, same_Some, slice_get_past}
use Rattle.std.proofs.lemmas.List.{map-set}
use Rattle.rg_base.specs.declared.value.Word.{Word}
use Rattle.rg_base.specs.declared.value.Word.TheVariants as word
use Rattle.rg_sound.proofs.Owners.Owner.{get-set, get-set-other}
use Rattle.rg_cells.specs.declared.cell.Body.{Body}
use Rattle.rg_cells.specs.Table.{Heap, body_in, body_at, with_body, with_field, Serials}
use Rattle.rg_cells.proofs.SerialsKept.{serials_of}
use Rattle.rg_stack.specs.Effects.{put_in, with_value_in}
use Rattle.rg_heap.specs.Answers.{val_of, obj_of}
use Rattle.rg_view.specs.View.{object_of, seen_of, store_of}
use Rattle.rg_view.proofs.List.{same_lists}
use Rattle.rg_view.proofs.Callers.Look.{look, seen-held, seen-gone, store-length, store-at, store-held, val-held}
use Rattle.rg_view.proofs.Callers.Shown.{IsSameObject, object-same, val-same}

-- a list with another element
set-there : (xs : List (Option (Option Body))) (s : ℕ) (b : Body) (x : Option (Option Body)) → body_in (slice_index_or xs s None) ≡ Some b
    → slice_index_or (slice_set xs s x) s None ≡ x
set-there [] s b x e = absurd (none-some b e)
set-there (y ∷ xs) zero b x e = refl
set-there (y ∷ xs) (suc s) b x e = set-there xs s b x e

set-beside : (xs : List (Option (Option Body))) (s i : ℕ) (x : Option (Option Body)) → i ≢ s
    → slice_index_or (slice_set xs s x) i None ≡ slice_index_or xs i None
set-beside [] s i x d = refl
set-beside (y ∷ xs) zero zero x d = absurd (d refl)
set-beside (y ∷ xs) zero (suc i) x d = refl
set-beside (y ∷ xs) (suc s) zero x d = refl
set-beside (y ∷ xs) (suc s) (suc i) x d = set-beside xs s i x (λ e. d (ap suc e))

module _ (h : Heap) (slot k : ℕ) (w : Word) (b : Body) (e : body_at h slot ≡ Some b) where
  -- the body behind the write, and the heap
  abbrev body : Body
  body = record b { fields = slice_set b.fields k w }

  abbrev after : Heap
  after = with_field h slot k w

  is-after : after ≡ with_body h slot body
  is-after = ap (λ (o : Option Body). elim o [ None ↦ h | Some c ↦ with_body h slot (record c { fields = slice_set c.fields k w }) ]) e

  -- the next serial stays
  pub written-next : after.next ≡ h.next
  written-next = ap (λ (g : Heap). g.next) is-after

  pub written-there : body_at after slot ≡ Some body
  written-there = ap (λ g. body_at g slot) is-after ∙ ap body_in (set-there h.slots slot b (Some (Some body)) e)

  pub written-beside : (s : ℕ) → s ≢ slot → body_at after s ≡ body_at h s
  written-beside s d = ap (λ g. body_at g s) is-after ∙ ap body_in (set-beside h.slots slot s (Some (Some body)) d)

  -- every cell keeps its serial
  pub written-same : (s : ℕ) → IsSameObject h after s
  written-same s = elim (cases_eq s slot) [
    | inl is ↦ ap (λ t. obj_of (body_at after t)) is ∙ ap obj_of written-there ∙ sym (ap obj_of e) ∙ sym (ap (λ t. obj_of (body_at h t)) is)
    | inr d ↦ ap obj_of (written-beside s d)
  ]

  pub written-val : (u : Word) → val_of after u ≡ val_of h u
  written-val u = val-same h after u (λ s is. written-same s)

  was : (s : ℕ) (d : Body) → body_at after s ≡ Some d → (c : Body) × (body_at h s ≡ Some c) × (c.serial ≡ d.serial)
  was s d is = elim (cases_eq s slot) [
    | inl at ↦
        let same : body ≡ d = same_Some body d (sym written-there ∙ ap (body_at after) (sym at) ∙ is) in
        (b, ap (body_at h) at ∙ e, ap (λ (c : Body). c.serial) same)
    | inr o ↦ (d, sym (written-beside s o) ∙ is, refl)
  ]

  pub written-serials : Serials h → Serials after
  written-serials q = serials_of h after (let n = written-next in omega (arith, n)) was q

  -- the object of the cell has the value in that field
  shown-there : Serials h → seen_of after b.serial ≡ with_value_in (object_of h (Some b)) k (val_of h w)
  shown-there q =
      seen-held after slot body (written-serials q) written-there
      ∙ object-same h after body (λ i s is. written-same s)
      ∙ ap (λ vs. record (object_of h (Some b)) { fields = vs }) (map-set (val_of h) b.fields k w)

  -- all others are as they were
  shown-beside : Serials h → (a : ℕ) → a ≢ b.serial → seen_of after a ≡ seen_of h a
  shown-beside q a d = elim (look h a) [
    | inl here ↦
        let other : here.slot ≢ slot = (λ is.
        let same : here.body ≡ b = same_Some here.body b (sym here.held ∙ ap (body_at h) is ∙ e) in
        d (sym here.serial ∙ ap (λ (c : Body). c.serial) same)) in
        let there : body_at after here.slot ≡ Some here.body = written-beside here.slot other ∙ here.held in
        ap (seen_of after) (sym here.serial)
        ∙ seen-held after here.slot here.body (written-serials q) there
        ∙ object-same h after here.body (λ i s is. written-same s)
        ∙ sym here.shown
    | inr missing ↦
        seen-gone after a (λ s c is f. let x = was s c is in missing.lacks s x.0 x.1 (x.2 ∙ f)) ∙ sym missing.shown
  ]

  at-place : Serials h → (i : ℕ)
      → slice_get (store_of after) i ≡ slice_get (slice_set (store_of h) b.serial (with_value_in (object_of h (Some b)) k (val_of h w))) i
  at-place q i = elim (cases_eq i b.serial) [
    | inl is ↦
        let new = with_value_in (object_of h (Some b)) k (val_of h w) in
        let lt = q.below slot b e in
        ap (slice_get (store_of after)) is
        ∙ store-at after b.serial (let n = written-next in omega (arith, n, lt))
        ∙ ap Some (shown-there q)
        ∙ sym (get-set (store_of h) b.serial new (object_of h (Some b)) (store-held h slot b q e))
        ∙ ap (slice_get (slice_set (store_of h) b.serial new)) (sym is)
    | inr d ↦ beside d ∙ sym (get-set-other (store_of h) b.serial i (with_value_in (object_of h (Some b)) k (val_of h w)) d)
  ]
    where
      beside : i ≢ b.serial → slice_get (store_of after) i ≡ slice_get (store_of h) i
      beside d = elim (cases_lt i h.next) [
        | inl lt ↦
            store-at after i (let n = written-next in omega (arith, n, lt))
            ∙ ap Some (shown-beside q i d) ∙ sym (store-at h i lt)
        | inr le ↦
            slice_get_past (store_of after) i (let n = written-next in omega (arith, n, le, store-length after))
            ∙ sym (slice_get_past (store_of h) i (omega (arith, le, store-length h)))
      ]

  -- the store behind the write
  pub written-store : Serials h → store_of after ≡ put_in (store_of h) (val_of h (word.Slot slot)) k (val_of h w)
  written-store q =
      let v = val_of h w in
      same_lists (store_of after) (slice_set (store_of h) b.serial (with_value_in (object_of h (Some b)) k v)) (at-place q)
      ∙ sym (ap (λ o. elim o [ None ↦ store_of h | Some c ↦ slice_set (store_of h) b.serial (with_value_in c k v) ]) (store-held h slot b q e))
      ∙ sym (ap (λ r. put_in (store_of h) r k v) (val-held h slot b e))
