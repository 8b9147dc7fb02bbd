-- The behaviour's object is the first one.
use Rattle.std.proofs.Common.{◌≡◌, inl, inr, ℕ, List, [], ◌∷◌, ◌++◌, map, Option, Some, None}
use Rattle.std.proofs.Common.{slice_index_or, option_map, refl, sym, ap, ◌∙◌, arith}
use Rattle.std.proofs.Common.{Result, Ok, Err, IfOk}
use Rattle.std.specs.List.{range_with_len}
use Rattle.std.proofs.lemmas.Bool.{cases_eq}
use Rattle.std.proofs.lemmas.Option.{none-some, same_Some}
use Rattle.rg_base.specs.declared.object.Label.TheVariants.{Region}
use Rattle.rg_base.specs.declared.words.Manager.TheVariants.{Arena}
use Rattle.rg_base.specs.declared.value.Word.{Word}
use Rattle.rg_base.specs.declared.value.Word.TheVariants as word
use Rattle.rg_cells.specs.declared.cell.Body.{Body}
use Rattle.rg_cells.specs.Table.{Heap, field_at, Serials}
use Rattle.rg_regions.specs.Table.{Record, RegionTable, Added, fresh, record_at, HasNumber, IsKey, with_room}
use Rattle.rg_frames.specs.declared.rows.Window.{Window}
use Rattle.rg_frames.specs.Stack.{IsTop}
use Rattle.rg_heap.specs.Parts.{Parts, OnTop}
use Rattle.rg_heap.specs.Answers.{AllLead}
use Rattle.rg_heap.specs.Changes.{LeadsNowhere, OnActive, Makes, Rewritten, with_one}
use Rattle.rg_opening.specs.declared.given.Given.{Given}
use Rattle.rg_stack.specs.Machine.{value_of_word}
use Rattle.rg_view.specs.View.{seen_of, store_of, managers_of, manager_with}
use Rattle.rg_view.specs.Numbers.{Numbers, HasBridges}
use Rattle.rg_view.proofs.Callers.New.{made-plain}
use Rattle.rg_view.proofs.Callers.Manager.{manager-of}
use Rattle.rg_begin.specs.Inner.Laid.{start_value, Laid}
use Rattle.rg_begin.specs.Inner.First.{main_frame}

-- of one answer two facts give a third one
pub both-ok : {A B : Type 0} {P Q R : A → Type 0} (r : Result A B) → IfOk r P → IfOk r Q → ((a : A) → P a → Q a → R a) → IfOk r R
both-ok (Ok a) p q f = f a p q
both-ok (Err b) p q f = tt

-- the one window
first-window : (key : ℕ) → Window
first-window key = record { number = 0; region = key; owner = None; base = 0 }

the-window : (key n a b : ℕ) (w : Window) → IsTop (main_frame key n a b) w → key ≡ w.region
the-window key n a b w e = ap (λ (x : Window). x.region) (same_Some (record { number = 0; region = key; owner = None; base = 0 }) w e)

-- in an empty heap no field leads anywhere
none-leads : (h : Heap) → h.slots ≡ [] → (s : ℕ) → AllLead h s
none-leads h none s k to e = absurd (none-some (word.Slot to) (sym (ap (λ (xs : List (Option (Option Body))). field xs) none) ∙ e))
  where
    field : List (Option (Option Body)) → Option Word
    field xs = field_at (record { slots = xs; next = h.next }) s k

module _ (p q : Parts) (start : RegionTable) (key n a b slot class : ℕ) (words : List Word) (given : List Given)
    (slots : p.cells.heap.slots ≡ []) (serials : p.cells.heap.next ≡ 0) (records : start.records ≡ []) (next : start.next ≡ 0)
    (added : Added start p.regions key (fresh start Arena)) where
  -- the one region
  only : (k : ℕ) (r : Record) → record_at p.regions k ≡ Some r → (k ≡ key) × (fresh start Arena ≡ r)
  only k r e = elim (cases_eq k key) [
    | inl is ↦ (is, same_Some (fresh start Arena) r (sym added.is ∙ ap (record_at p.regions) (sym is) ∙ e))
    | inr d ↦
        absurd (none-some r (sym (ap (λ (rs : List (Option Record)). slice_index_or rs k None) records) ∙ sym (added.others k d) ∙ e))
  ]

  pub is-key : OnTop (main_frame key n a b) (λ w. IsKey p.regions w.region)
  is-key w e =
      let there : record_at p.regions w.region ≡ Some (fresh start Arena) =
      ap (record_at p.regions) (sym (the-window key n a b w e)) ∙ added.is in
      rw there refl

  window : Window
  window = record { number = 0; region = key; owner = None; base = 0 }

  begun-number : HasNumber p.regions key 0
  begun-number = ap (option_map (λ (r : Record). r.number)) added.is ∙ ap Some next

  module _ (made : OnActive p.regions (main_frame key n a b) (λ k m. Makes p.cells q.cells slot class (Region m) words))
      (member : OnTop (main_frame key n a b) (λ w. Rewritten p.regions q.regions w.region (with_one slot))) (plain : LeadsNowhere words)
      (values : map value_of_word words ≡ map start_value given) (old : Serials p.cells.heap) where
    makes : Makes p.cells q.cells slot class (Region 0) words
    makes = made (record { number = 0; region = key; owner = None; base = 0 }) 0 refl begun-number

    joins : Rewritten p.regions q.regions key (with_one slot)
    joins = member (record { number = 0; region = key; owner = None; base = 0 }) refl

    -- the record of the region
    abbrev region : Record
    region = with_room (joins.is (fresh start Arena) added.is).0 (with_one slot (fresh start Arena))

    region-there : record_at q.regions key ≡ Some (with_room (joins.is (fresh start Arena) added.is).0 (with_one slot (fresh start Arena)))
    region-there = (joins.is (fresh start Arena) added.is).1

    one : (k : ℕ) (r : Record) → record_at q.regions k ≡ Some r → (k ≡ key) × (r.number ≡ 0) × (r.manager ≡ Arena) × (r.bridge ≡ None)
    one k r e = elim (cases_eq k key) [
      | inl is ↦
          let same : with_room (joins.is (fresh start Arena) added.is).0 (with_one slot (fresh start Arena)) ≡ r =
          same_Some (with_room (joins.is (fresh start Arena) added.is).0 (with_one slot (fresh start Arena))) r
          (sym region-there ∙ ap (record_at q.regions) (sym is) ∙ e) in (
            is,
            ap (λ (x : Record). x.number) (sym same) ∙ next,
            ap (λ (x : Record). x.manager) (sym same),
            ap (λ (x : Record). x.bridge) (sym same),
          )
      | inr d ↦ absurd (d (only k r (sym (joins.others k d) ∙ e)).0)
    ]

    first-numbers : Numbers q.regions
    first-numbers = record {
      below = λ k r e.
          let is = (one k r e).1 in
          let more = added.next in
          let same = joins.next in
          omega (arith, is, more, same, next);
      differ = λ k m r u e f same. (one k r e).0 ∙ sym (one m u f).0;
    }

    first-bridges : HasBridges q.regions
    first-bridges k r e = let o = one k r e in (λ d. absurd (d o.1), λ z. o.3)

    first-managers : managers_of q.regions ≡ Arena ∷ []
    first-managers =
        let more = added.next in
        let same = joins.next in
        let count : q.regions.next ≡ 1 = omega (arith, more, same, next) in
        let o = one key (with_room (joins.is (fresh start Arena) added.is).0 (with_one slot (fresh start Arena))) region-there in
        ap (λ m. map (λ i. manager_with i q.regions.records) (range_with_len 0 m)) count
        ∙ ap (λ i. manager_with i q.regions.records ∷ []) (sym o.1)
        ∙ ap (λ x. x ∷ [])
        (manager-of q.regions key (with_room (joins.is (fresh start Arena) added.is).0 (with_one slot (fresh start Arena))) first-numbers region-there
        ∙ o.2)

    first-store : store_of q.cells.heap ≡ record { class = class; fields = map start_value given; label = Region 0 } ∷ []
    first-store =
        made-plain p.cells q.cells slot class (Region 0) words makes old (none-leads p.cells.heap slots) plain
        ∙ ap (λ m. map (seen_of p.cells.heap) (range_with_len 0 m)
        ++ record { class = class; fields = map value_of_word words; label = Region 0 } ∷ [])
        serials
        ∙ ap (λ vs. record { class = class; fields = vs; label = Region 0 } ∷ []) values

    pub first-laid : Laid q (main_frame key n a b) slot class given 0
    first-laid = record {
      numbers = first-numbers;
      bridges = first-bridges;
      window = record { number = 0; region = key; owner = None; base = 0 };
      top = refl;
      region =
          ap (option_map (λ (r : Record). r.number)) region-there
          ∙ ap Some (one key (with_room (joins.is (fresh start Arena) added.is).0 (with_one slot (fresh start Arena))) region-there).1;
      first = (record { class = class; label = Region 0; serial = p.cells.heap.next; fields = words }, makes.made.body, serials);
      store = first-store;
      managers = first-managers;
    }
