-- Two heaps in which the same is held: what is spent in the one is spent in the other.
use Rattle.std.proofs.Common.{◌≡◌, ℕ, zero, suc, List, [], ◌∷◌, map, Some, slice_get, refl, sym, ap, ◌∙◌, subst}
use Rattle.std.proofs.lemmas.Option.{none-some, same_Some, slice_get-map}
use Rattle.std.specs.Prelude.{option_map}
use Rattle.rg_base.specs.declared.object.Seen.{Seen}
use Rattle.rg_base.specs.declared.value.Val.TheVariants as val
use Rattle.rg_base.specs.declared.value.Word.TheVariants as word
use Rattle.rg_cells.specs.declared.cell.Body.{Body}
use Rattle.rg_cells.specs.Table.{Heap, Serials, body_at, field_at}
use Rattle.rg_regions.specs.Reach.{LiesIn, Roots}
use Rattle.rg_regions.specs.Reach.{Stands as Root}
use Rattle.rg_regions.specs.Spent.{IsSpentOrder, Spent}
use Rattle.rg_heap.specs.Answers.{val_of}
use Rattle.rg_view.proofs.Callers.Link.{val-back, word-back}
use Rattle.rg_view.proofs.Callers.Look.{val-held}
use Rattle.rg_view.proofs.Callers.Shown.{field-in}
use Rattle.rg_once.proofs.Cell.{Mates, Within, mate, mates-back, mates-lie, mates-show, one-mate}

-- Fields that go together

pub field-mate : (h g : Heap) (x y k z : ℕ) → Serials g → Within h g → Mates h g x y → field_at h x k ≡ Some (word.Slot z)
    → (b : Body) → body_at h z ≡ Some b → (u : ℕ) × (field_at g y k ≡ Some (word.Slot u)) × Mates h g z u
field-mate h g x y k z q w m leads b held =
    let shows : slice_get (map (val_of h) m.here.fields) k ≡ Some (val.Obj b.serial) =
    slice_get-map (val_of h) m.here.fields k ∙ ap (option_map (val_of h)) (sym (field-in h x k m.here m.held) ∙ leads)
    ∙ ap Some (val-held h z b held) in
    let there = word-back g m.there.fields k (val.Obj b.serial)
    (ap (λ (o : Seen). slice_get o.fields k) (mates-show h g x y q w m) ∙ shows) in
    let to = val-back g there.0 b.serial there.2 in (
      to.slot,
      field-in g y k m.there m.also ∙ there.1 ∙ ap Some to.is,
      record { here = b; there = to.body; held = held; also = to.held; serial = sym to.serial },
    )

-- A list of cells of a region, in the other heap

pub record Copied (h g : Heap) (order : List ℕ) : Type 0 where
  pub copy : List ℕ
  pub on : (i x : ℕ) → slice_get order i ≡ Some x → (y : ℕ) × (slice_get copy i ≡ Some y) × Mates h g x y
  pub back : (i y : ℕ) → slice_get copy i ≡ Some y → (x : ℕ) × (slice_get order i ≡ Some x) × Mates h g x y

one-more : (h g : Heap) (s : ℕ) (ss : List ℕ) → (y : ℕ) × Mates h g s y → Copied h g ss → Copied h g (s ∷ ss)
one-more h g s ss m rest = record { copy = m.0 ∷ rest.copy; on = on; back = back }
  where
    on : (i x : ℕ) → slice_get (s ∷ ss) i ≡ Some x → (y : ℕ) × (slice_get (m.0 ∷ rest.copy) i ≡ Some y) × Mates h g x y
    on zero x e = (m.0, refl, subst (λ k. Mates h g k m.0) (same_Some s x e) m.1)
    on (suc i) x e = rest.on i x e

    back : (i y : ℕ) → slice_get (m.0 ∷ rest.copy) i ≡ Some y → (x : ℕ) × (slice_get (s ∷ ss) i ≡ Some x) × Mates h g x y
    back zero y e = (s, refl, subst (λ k. Mates h g s k) (same_Some m.0 y e) m.1)
    back (suc i) y e = rest.back i y e

copied : (h g : Heap) (r : ℕ) → Within h g → (order : List ℕ) → ((i s : ℕ) → slice_get order i ≡ Some s → LiesIn h r s) → Copied h g order
copied h g r w [] lie = record {
  copy = [];
  on = λ i x e. absurd (none-some x e);
  back = λ i y e. absurd (none-some y e);
}
copied h g r w (s ∷ ss) lie = one-more h g s ss (mate h g r s w (lie 0 s refl)) (copied h g r w ss (λ i x e. lie (suc i) x e))

module _ (h g : Heap) (q : Serials h) (u : Serials g) (w : Within h g) (back : Within g h) (r : ℕ) (roots others : Roots)
    (never : (x y : ℕ) → Spent h r roots x → Mates h g x y → Root g others y → ⊥) where
  module _ (order : List ℕ) (is : IsSpentOrder h r roots order) where
    abbrev there : Copied h g order
    there = copied h g r w order is.lie

    order-there : IsSpentOrder g r others there.copy
    order-there = record {
      lie = λ i y e. let x = there.back i y e in mates-lie h g r x.0 y u w x.2 (is.lie i x.0 x.1);
      once = λ i j y e f.
          let x = there.back i y e in
          let z = there.back j y f in
          let same : x.0 ≡ z.0 = one-mate g h y x.0 z.0 q (mates-back h g x.0 y x.2) (mates-back h g z.0 y z.2) in
          is.once i j x.0 x.1 (z.1 ∙ ap Some (sym same));
      no_root = λ i y e root. let x = there.back i y e in never x.0 y (order, is, (i, x.1)) x.2 root;
      earlier = λ i y p k e lies leads.
          let x = there.back i y e in
          let z = mate g h r p back lies in
          let f = field-mate g h p z.0 k y q back z.1 leads x.2.there x.2.also in
          let same : f.0 ≡ x.0 = one-mate g h y f.0 x.0 q f.2 (mates-back h g x.0 y x.2) in
          let j = is.earlier i x.0 z.0 k x.1 (mates-lie g h r p z.0 q back z.1 lies) (f.1 ∙ ap (λ s. Some (word.Slot s)) same) in
          let c = there.on j.0 z.0 j.2 in
          (j.0, j.1, c.1 ∙ ap Some (one-mate h g z.0 c.0 p u c.2 (mates-back g h p z.0 z.1)));
    }

  -- what is spent in the one heap is so in the other
  pub spent-also : (x y : ℕ) → Mates h g x y → Spent h r roots x → Spent g r others y
  spent-also x y m (order, is, i) =
      let c = copied h g r w order is.lie in
      let on = c.on i.0 x i.1 in
      (c.copy, order-there order is, (i.0, on.1 ∙ ap Some (one-mate h g x on.0 y u on.2 m)))
