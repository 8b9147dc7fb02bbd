-- What the passes leave together is what the collection promises (docs/architecture.md, "A manager that moves its
-- cells").
use Rattle.std.proofs.Common.{◌≡◌, ℕ, List, length, map, Option, Some, None, refl, ap, sym, ◌∙◌, subst, ◌⊎◌, inl, inr}
use Rattle.std.proofs.Common.{slice_get, option_map, option_and_then, drop, take}
use Rattle.std.proofs.lemmas.Option.{same_Some}
use Rattle.rg_base.specs.declared.object.Label.{Label}
use Rattle.rg_base.specs.declared.object.Label.TheVariants.{Region, Temp, Frozen}
use Rattle.rg_base.specs.declared.value.Word.{Word}
use Rattle.rg_base.specs.declared.value.Word.TheVariants.{Slot}
use Rattle.rg_cells.specs.declared.cell.Body.{Body}
use Rattle.rg_cells.specs.Table.{Heap, Table, body_at, label_at, field_at, high_of}
use Rattle.rg_frames.specs.Stack.{Stack}
use Rattle.rg_regions.specs.Table.{Record, RegionTable, record_at, Has, IsBridge}
use Rattle.rg_regions.specs.Ordered.{with_members}
use Rattle.rg_regions.specs.Reach.{LiesIn}
use Rattle.rg_regions.proofs.Callers.Told.{one_region, number_of}
use Rattle.rg_copy.specs.Slid.{top_slots, top_temps, top_roots, base_of, AllBecome, CellBecomes, Slid}
use Rattle.rg_copy.specs.Inner.Moves.{target, moved_word, all_fields, IsTempAt, changed_from}
use Rattle.rg_copy.proofs.Words.{from-drop, from-take, map-agree}
use Rattle.rg_copy.proofs.Fields.{moved-agree}
use Rattle.rg_copy.proofs.Stages.{reach-closed}
use Rattle.rg_copy.proofs.Stages.{Stages, place, change, all-become, cell-becomes, body-temp, body-off, marks-off}
use Rattle.rg_copy.proofs.Stages.{place-lies, body-reached, only-reached, bridge-place, lowest-taken, gone-slot}
use Rattle.rg_copy.proofs.Stages.{unmarked-slot, swept-members, target-f, body-e, lies_of}

-- a cell is a temporary by its label, or isn't
temp-cases : (h : Heap) (s : ℕ) → IsTempAt h s ⊎ (IsTempAt h s → ⊥)
temp-cases h s = by_label (label_at h s)
  where
    by_label : (l : Option Label) → ((n : ℕ) × (l ≡ Some (Temp n))) ⊎ (((n : ℕ) × (l ≡ Some (Temp n))) → ⊥)
    by_label None = inr (λ k. let q : None ≡ Some (Temp k.0) = k.1 in cc)
    by_label (Some (Region r)) = inr (λ k. let q : Some (Region r) ≡ Some (Temp k.0) = k.1 in cc)
    by_label (Some (Temp n)) = inl (n, refl)
    by_label (Some Frozen) = inr (λ k. let q : Some Frozen ≡ Some (Temp k.0) = k.1 in cc)

module _ {c m p e f s cells : Table} {t u regions : RegionTable} {key : ℕ} {rec : Record} {v frames : Stack}
    {members : List ℕ} (g : Stages c m p e f s cells t u regions key rec v frames members) where
  abbrev Place : ℕ → ℕ
  Place = place g

  abbrev Change : Word → Word
  Change = change g

  -- where a cell of another region, or a frozen one, leads into the region, it leads to the bridge
  pub leads-bridge : (x k y : ℕ) → (LiesIn c.heap rec.number x → ⊥) → (IsTempAt p.heap x → ⊥)
      → field_at c.heap x k ≡ Some (Slot y) → LiesIn c.heap rec.number y → rec.bridge ≡ Some y
  leads-bridge x k y off temp lead lies = by_label (label_at c.heap x) refl
    where
      by_bridge : IsBridge t rec.number y → rec.bridge ≡ Some y
      by_bridge b =
          let q : b.0 ≡ key = g.grove.numbers b.0 key rec.number (number_of t b.0 rec.number b.1 b.2 b.3)
          (number_of t key rec.number rec g.there refl) in
          let z : b.1 ≡ rec = same_Some b.1 rec (sym b.2 ∙ ap (record_at t) q ∙ g.there) in
          sym (ap (λ (r : Record). r.bridge) z) ∙ b.4

      by_label : (l : Option Label) → label_at c.heap x ≡ l → rec.bridge ≡ Some y
      by_label None q =
          let w : None ≡ Some (Slot y) = sym (no_field (body_at c.heap x) q) ∙ lead in cc
        where
          no_field : (b : Option Body) → option_map (λ (b : Body). b.label) b ≡ None
              → option_and_then (λ (b : Body). slice_get b.fields k) b ≡ None
          no_field None q = refl
          no_field (Some b) q = cc
      by_label (Some (Region r)) q = elim (g.grove.fields r x k y q lead) [
        | inl a ↦ let w : Some Frozen ≡ Some (Region rec.number) = sym a ∙ lies in cc
        | inr a ↦ elim a [
          | inl a ↦
              let n : r ≡ rec.number = one_region c.heap y r rec.number a lies in
              absurd (off (q ∙ ap (λ z. Some (Region z)) n))
          | inr a ↦
              let n : a.0 ≡ rec.number = one_region c.heap y a.0 rec.number a.2 lies in
              let B : ℕ → Type 0 = λ z. IsBridge t z y in
              by_bridge (subst B n a.3)
        ]
      ]
      by_label (Some (Temp n)) q = absurd (temp (n, ap (λ (h : Heap). label_at h x) (g.plans.heap ∙ g.marked.heap) ∙ q))
      by_label (Some Frozen) q =
          let a = g.grove.frozen x k y q lead in
          let w : Some Frozen ≡ Some (Region rec.number) = sym a ∙ lies in
          cc

  -- a cell that was not rewritten has no word to rewrite
  still-becomes : (x : ℕ) (b : Body) → (LiesIn c.heap rec.number x → ⊥) → (IsTempAt p.heap x → ⊥)
      → body_at c.heap x ≡ Some b → CellBecomes c.heap rec.number (top_roots rec v) Place b b
  still-becomes x b off temp is = record {
    class = refl;
    label = refl;
    serial = refl;
    fields = record {
      as_many = refl;
      each = λ k old new a d.
          let q : old ≡ new = same_Some old new (sym a ∙ d) in
          record {
            moved = λ y w n.
                let lead : field_at c.heap x k ≡ Some (Slot y) =
                ap (option_and_then (λ (b : Body). slice_get b.fields k)) is ∙ a ∙ ap Some w in
                let z = bridge-place g y
                (leads-bridge x k y off temp lead
                (lies_of g y n)) in
                sym q ∙ w ∙ ap (λ i. Slot i) (sym z);
            stays = λ n. sym q;
          };
    };
  }

  temp-becomes : (x : ℕ) (b : Body) → Has (top_temps v) x → (LiesIn c.heap rec.number x → ⊥) → body_at c.heap x ≡ Some b
      → (d : Body) × (body_at cells.heap x ≡ Some d)
      × CellBecomes c.heap rec.number (top_roots rec v) Place b d
  temp-becomes x b n off is = elim (temp-cases p.heap x) [
    | inl k ↦ (
      all_fields Change b,
      body-off g x off
          ∙ body-temp g x n k
          ∙ ap (option_map (all_fields Change)) is,
      cell-becomes g b,
    )
    | inr k ↦ (
      b,
      body-off g x off
          ∙ body-e g x k ∙ is,
      still-becomes x b off k is,
    )
  ]

  pub slides : Slid c t key rec v cells regions frames
  slides =
      let w = g.swept.left (with_members members rec) g.now in
      let F : Word → Word = moved_word (target f rec.number) in
      let words : frames.slots ≡ changed_from F (base_of v) (length (top_slots v)) v.slots =
      ap (λ (z : Stack). z.slots) g.shown in
      let top : drop (base_of v) frames.slots ≡ map Change (top_slots v) =
      ap (λ (ws : List Word). drop (base_of v) ws) words ∙ from-drop F (base_of v) v.slots
      ∙ map-agree F Change (moved-agree (target f rec.number) (target p rec.number)
      (target-f g)) (top_slots v) in
      let A : List Word → Type 0 =
      λ ws. AllBecome c.heap rec.number (top_roots rec v) Place (top_slots v) ws in
      record {
        place = Place;
        stands = λ x b n is. (
          all_fields Change b,
          body-reached g x n
              ∙ ap (option_map (all_fields Change)) is,
          cell-becomes g b,
        );
        closed = reach-closed g;
        only = λ x l.
            let a = only-reached g x l in (a.0, a.1, a.2);
        bridge = bridge-place g;
        within = place-lies g;
        lowest = lowest-taken g;
        gone = gone-slot g;
        unmarked = unmarked-slot g;
        temps = temp-becomes;
        others = λ x n off.
            body-off g x off ∙ g.forwards_temps.others x (λ k. n k.0)
            ∙ ap (λ (h : Heap). body_at h x) (g.plans.heap ∙ g.marked.heap);
        marks = marks-off g;
        slots = subst A (sym top)
            (all-become g (top_slots v));
        beneath = ap (λ (ws : List Word). take (base_of v) ws) words
            ∙ from-take F (base_of v) (length (top_slots v)) v.slots;
        stack = g.shown ∙ ap (λ (ws : List Word). record v { slots = ws }) (sym words);
        serials = w.5.next ∙ g.shifted.1.next ∙ g.forwarded.alike.next ∙ g.forwards_temps.alike.next
            ∙ ap (λ (h : Heap). h.next) (g.plans.heap ∙ g.marked.heap);
        high = w.5.high ∙ g.shifted.1.high ∙ g.forwarded.alike.high ∙ g.forwards_temps.alike.high
            ∙ ap (λ (h : Heap). high_of h) (g.plans.heap ∙ g.marked.heap);
        numbers = g.swept.next ∙ g.next;
        records = λ k d. g.swept.others k d ∙ g.others k d;
        own = (w.0, w.1, w.2, w.3, w.4, swept-members s cells rec.number w.0.members w.5);
      }
