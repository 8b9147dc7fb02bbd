-- Regions one above the other, as a test builds them: the forest stays one (docs/architecture.md, "Tests").
use Rattle.std.proofs.Common.{◌≡◌, ◌≢◌, ℕ, ◌<◌, ◌≤◌, zero, suc, List, [], ◌∷◌, Option, Some, None, IsSome, get_or, refl, ap, sym, ◌∙◌}
use Rattle.std.proofs.Common.{subst, arith, inl, inr, option_map, slice_get}
use Rattle.std.proofs.lemmas.Option.{same_Some}
use Rattle.rg_base.specs.declared.object.Label.TheVariants.{Region}
use Rattle.rg_base.specs.declared.words.Manager.{Manager}
use Rattle.rg_base.specs.declared.words.Manager.TheVariants.{Trace}
use Rattle.rg_base.specs.declared.value.Word.{Word}
use Rattle.rg_base.specs.declared.value.Word.TheVariants.{Slot}
use Rattle.rg_cells.specs.declared.cell.Body.{Body}
use Rattle.rg_cells.specs.Table.{Table, Made, body_at}
use Rattle.rg_regions.specs.Table.{Record, RegionTable, record_at, HasNumber, Chained, Added, fresh, changed}
use Rattle.rg_regions.specs.Table.{with_room, with_bridge, with_member}
use Rattle.rg_regions.specs.Reach.{LiesIn}
use Rattle.rg_regions.specs.Grove.{Grove, Parent, Above, direct, further}
use Rattle.rg_regions.proofs.Callers.Told.{one_number, number_of}
use Rattle.rg_regions.proofs.Callers.Changed.{changed_at, changed_other, changed_links}
use Rattle.rg_regions.proofs.Callers.RegionComes.{RegionComes, grove_comes, alone_new}
use Rattle.rg_release.specs.Released.{Unowned}
use Rattle.rg_move.specs.Closed.{Closed}
use Rattle.rg_move.specs.Merged.{CanTake}
use Rattle.rg_heap_tests.specs.Tops.{IsTop, LeadsToTop}
use Rattle.rg_heap_tests.specs.Traced.{InTraced}

only_word : (w v : Word) (k : ℕ) → slice_get (w ∷ []) k ≡ Some v → (k ≡ 0) × (w ≡ v)
only_word w v zero e = (refl, same_Some w v e)
only_word w v (suc k) e = cc

-- the steps by which a region comes
module _ (c c2 : Table) (t t1 t2 t3 t4 : RegionTable) (key slot number room : ℕ) (w : Word) (m : Manager)
    (a : Added t t1 key (fresh t m)) (e2 : t2 ≡ changed t1 key (with_room room)) (e3 : t3 ≡ changed t2 key (with_bridge slot)) where
  at_bridge : record_at t3 key ≡ Some (with_bridge slot (with_room room (fresh t m)))
  at_bridge =
      let at2 : record_at t2 key ≡ Some (with_room room (fresh t m)) =
      ap (λ z. record_at z key) e2 ∙ changed_at t1 key (fresh t m) (with_room room) a.is in
      ap (λ z. record_at z key) e3 ∙ changed_at t2 key (with_room room (fresh t m)) (with_bridge slot) at2

  pub has_room : 1 ≤ room → (r : Record) × (record_at t3 key ≡ Some r) × (0 < r.room)
  has_room l = (with_bridge slot (with_room room (fresh t m)), at_bridge, omega (arith, l))

  module _ (b : Body) (g : Grove c t) (owns : LeadsToTop c t w) (new : (k : ℕ) → HasNumber t k t.next → ⊥) (n : HasNumber t1 key number)
      (e4 : t4 ≡ changed t3 key (with_member slot)) (vacant : body_at c.heap slot ≡ None) (made : Made c c2 slot b)
      (label : b.label ≡ Region number) (fields : b.fields ≡ w ∷ []) where
    label_is : b.label ≡ Region t.next
    label_is = label ∙ ap Region (one_number t1 key number t.next n (number_of t1 key t.next (fresh t m) a.is refl))

    at_end : record_at t4 key ≡ Some (with_member slot (with_bridge slot (with_room room (fresh t m))))
    at_end = ap (λ z. record_at z key) e4 ∙ changed_at t3 key (with_bridge slot (with_room room (fresh t m))) (with_member slot) at_bridge

    others : (k : ℕ) → k ≢ key → record_at t4 k ≡ record_at t k
    others k d =
        ap (λ z. record_at z k) e4 ∙ changed_other t3 key (with_member slot) k d
        ∙ ap (λ z. record_at z k) e3 ∙ changed_other t2 key (with_bridge slot) k d
        ∙ ap (λ z. record_at z k) e2 ∙ changed_other t1 key (with_room room) k d
        ∙ a.others k d

    links : t4.links ≡ t1.links
    links =
        ap (λ (z : RegionTable). z.links) e4 ∙ (changed_links t3 key (with_member slot)).0
        ∙ ap (λ (z : RegionTable). z.links) e3 ∙ (changed_links t2 key (with_bridge slot)).0
        ∙ ap (λ (z : RegionTable). z.links) e2 ∙ (changed_links t1 key (with_room room)).0

    field : (k to : ℕ) → slice_get b.fields k ≡ Some (Slot to) → (k ≡ 0) × (w ≡ Slot to)
    field k to e = only_word w (Slot to) k (sym (ap (λ ws. slice_get ws k) fields) ∙ e)

    comes : RegionComes c t c2 t4 key slot (with_member slot (with_bridge slot (with_room room (fresh t m)))) b
    comes = record {
      vacant = vacant;
      made = made;
      free = a.vacant;
      is = at_end;
      others = others;
      fresh = new;
      label = label_is;
      members = refl;
      bridge = refl;
      leads = λ k to e.
          let o = owns to (field k to e).1 in
          inr (record { number = o.0; not_first = o.2; lies = o.3.lies; bridge = o.3.bridge; alone = o.3.alone });
      once = λ j k q x y e f i l. (field j x e).0 ∙ sym (field k y f).0;
    }

    pub grove_made : Grove c2 t4
    grove_made = grove_comes c t c2 t4 key slot (with_member slot (with_bridge slot (with_room room (fresh t m)))) b g comes

    pub top_in : m ≡ Trace → InTraced c2 t4 key slot
    top_in e = (
      with_member slot (with_bridge slot (with_room room (fresh t m))),
      at_end,
      e,
      ap (option_map (λ (b : Body). b.label)) made.body ∙ ap Some label_is,
    )

    pub top_made : IsTop c2 t4 t.next key slot
    top_made = record {
      has = number_of t4 key t.next (with_member slot (with_bridge slot (with_room room (fresh t m)))) at_end refl;
      lies = ap (option_map (λ (b : Body). b.label)) made.body ∙ ap Some label_is;
      bridge = (key, with_member slot (with_bridge slot (with_room room (fresh t m))), at_end, refl, refl);
      unlinked = ap (λ ls. get_or ls key None) links ∙ a.link;
      alone = alone_new c t c2 t4 key slot (with_member slot (with_bridge slot (with_room room (fresh t m)))) b g comes;
    }

-- the last region is released alone: nothing is chained behind it
pub top_unowned : (c : Table) (t : RegionTable) (n key slot : ℕ) → n ≢ 0 → IsTop c t n key slot
    → (keys : List ℕ) × Chained t.links (Some key) keys × Unowned c.heap t keys
top_unowned c t n key slot d o = (
  key ∷ [],
  (refl, (λ x. x), o.unlinked),
  record {
    there = λ k h. elim h [ inl e ↦ let P : ℕ → Type 0 = λ z. HasNumber t z n in (n, subst P (sym e) o.has) | inr x ↦ absurd x ];
    not_first = λ k h a. elim h [
      | inl e ↦ let P : ℕ → Type 0 = λ z. HasNumber t z 0 in d (one_number t key n 0 o.has (subst P e a))
      | inr x ↦ x
    ];
    alone = λ k q p s f to h a l x y i. elim h [
      | inl e ↦
          let P : ℕ → Type 0 = λ z. HasNumber t z q in
          let same : n ≡ q = one_number t key n q o.has (subst P e a) in
          let L : ℕ → Type 0 = λ z. LiesIn c.heap z to in
          o.alone p s f to (λ z. l (z ∙ same)) x y (subst L (sym same) i)
      | inr z ↦ z
    ];
  },
)

-- such a region is closed, but for region 0
pub top_closed : (c : Table) (t : RegionTable) (n key slot : ℕ) → n ≢ 0 → IsTop c t n key slot → Closed c.heap t key
top_closed c t n key slot d o = record { number = n; has = o.has; not_first = d; alone = o.alone }

-- region 0 can take the cells of each other one, since nothing leads into it
pub first_takes : (c : Table) (t : RegionTable) (n key first : ℕ) → Grove c t → n ≢ 0 → HasNumber t key n → HasNumber t first 0
    → CanTake c.heap t key first
first_takes c t n key first g d h f = record {
  there = number_there (record_at t first) 0 f;
  differ = λ e. let P : ℕ → Type 0 = λ z. HasNumber t z n in d (one_number t first n 0 (subst P e h) f);
  above = λ q e b.
      let same : q ≡ 0 = one_number t first q 0 e f in
      let top : b.0 ≡ n = one_number t key b.0 n b.1 h in
      elim (b.2) [
        | inl z ↦ d (sym top ∙ sym z ∙ same)
        | inr z ↦ let A : ℕ → Type 0 = λ y. Above c.heap b.0 y in not_above b.0 (subst A same z.1)
      ];
}
  where
    number_there : (o : Option Record) (m : ℕ) → option_map (λ (r : Record). r.number) o ≡ Some m → IsSome o
    number_there None m e = cc
    number_there (Some r) m e = refl

    not_child : (p : ℕ) → Parent c.heap p 0 → ⊥
    not_child p u = g.none_into_first p u.from u.field u.to u.differ u.lies u.leads u.child_has

    not_above : (p : ℕ) → Above c.heap p 0 → ⊥
    not_above p (direct u) = not_child p u
    not_above p (further {q = m} a u) = not_child m u
