-- Fields that are written.
use Rattle.std.proofs.Common.{◌≡◌, ℕ, ◌==◌, ◌⊎◌, inl, inr, true, false, Bool as Truth, List, [], ◌∷◌, length}
use Rattle.std.proofs.Common.{Option, Some, None, option_and_then, option_map, unwrap_or, refl, sym, ap, ◌∙◌, arith, slice_get, slice_set}
use Rattle.std.specs.Prelude.{◌||◌, nat_lt}
use Rattle.std.specs.List.{list_any}
use Rattle.std.proofs.lemmas.List.{length-set}
use Rattle.std.proofs.lemmas.Option.{same_Some}
use Rattle.std.proofs.lemmas.Bool.{eqb-true, cases_Bool}
use Rattle.rg_base.specs.declared.object.Label.{Label}
use Rattle.rg_base.specs.declared.object.Label.TheVariants.{Region}
use Rattle.rg_base.specs.declared.object.Seen.{Seen}
use Rattle.rg_base.specs.declared.value.Val.{Val}
use Rattle.rg_base.specs.declared.value.Val.TheVariants as val
use Rattle.rg_sound.proofs.Owners.Owner.{get-set}
use Rattle.rg_stack.specs.Machine.{Window, Machine}
use Rattle.rg_stack.specs.Effects.{with_value_in}
use Rattle.rg_stack.specs.Places.{field_of}
use Rattle.rg_stack.specs.Labels.{is_open, label_of, lies_in, is_into, is_outside}
use Rattle.rg_held.specs.Gone.{gone}
use Rattle.rg_held.specs.Part.{leads_to, AllLead, Placed, Part, is_of, OwnersHeld, may_lead}
use Rattle.rg_held.proofs.Lists.{set-back, set-old, set-apart}
use Rattle.rg_held.proofs.Places.{clash, field-into}
use Rattle.rg_held.proofs.Parts.Half.{around-objects, tidy-objects, whole}
use Rattle.rg_held.proofs.Parts.Part.{owners-over, lead-more, slot-over, field-over}

module _ (held : ℕ → Truth) (owners : List Val) (f m : Machine) (stack : List Val) (a : ℕ) (o : Seen) (k : ℕ) (v : Val)
    (p : Part held owners f m stack) (here : held a ≡ true) (there : slice_get m.store a ≡ Some o) (lead : leads_to held v ≡ true)
    (may : (q : ℕ) (l : Label) → o.label ≡ Region q → label_of m.store v ≡ Some l → may_lead m.windows q l ≡ true) where
  abbrev n : Seen
  n = with_value_in o k v

  abbrev store : List Seen
  store = slice_set m.store a n

  abbrev next : Machine
  next = record m { store = store }

  differs : (b : ℕ) → (a == b) ≡ false → a ≡ b → ⊥
  differs b h e = grind (arith, h, e)

  label-set : (u : Val) → label_of store u ≡ label_of m.store u
  label-set val.Nil = refl
  label-set (val.Int z) = refl
  label-set (val.Bool t) = refl
  label-set (val.Obj b) = elim (cases_Bool (a == b)) [
    | inl same ↦
        (let e = eqb-true a b same in
        ap (λ i. option_and_then (λ (o : Seen). Some o.label) (slice_get store i)) (sym e)
        ∙ ap (option_and_then (λ (o : Seen). Some o.label)) (get-set m.store a n o there)
        ∙ sym (ap (option_and_then (λ (o : Seen). Some o.label)) there)
        ∙ ap (λ i. option_and_then (λ (o : Seen). Some o.label) (slice_get m.store i)) e)
    | inr other ↦ ap (option_and_then (λ (o : Seen). Some o.label)) (set-apart m.store a b n (differs b other))
  ]

  pub into-set : (r : ℕ) (u : Val) → is_into store r u ≡ is_into m.store r u
  into-set r u = ap (λ (l : Option Label). elim l [ None ↦ false | Some l ↦ lies_in r l ]) (label-set u)

  any-set : (r : ℕ) (vs : List Val) → list_any (is_into store r) vs ≡ list_any (is_into m.store r) vs
  any-set r [] = refl
  any-set r (u ∷ vs) = ap (λ b. b || list_any (is_into store r) vs) (into-set r u) ∙ ap (λ b. is_into m.store r u || b) (any-set r vs)

  -- an object of the store, as it was before
  record Was (b : ℕ) (h : Seen) : Type 0 where
    before : Seen
    found : slice_get m.store b ≡ Some before
    label : before.label ≡ h.label
    fields : (j : ℕ) (u : Val) → slice_get h.fields j ≡ Some u → ((u ≡ v) × (o.label ≡ h.label)) ⊎ (slice_get before.fields j ≡ Some u)

  was : (b : ℕ) (h : Seen) → slice_get store b ≡ Some h → Was b h
  was b h e = elim (set-back m.store a b n h e) [
    | inl new ↦ record {
      before = o;
      found = ap (slice_get m.store) (sym new.0) ∙ there;
      label = ap (λ (q : Seen). q.label) (sym new.1);
      fields = λ j u at. elim (set-back o.fields k j v u (ap (λ (q : Seen). slice_get q.fields j) (sym new.1) ∙ at)) [
        | inl is ↦ inl (is.1, ap (λ (q : Seen). q.label) (sym new.1))
        | inr old ↦ inr old
      ];
    }
    | inr old ↦ record { before = h; found = old; label = refl; fields = λ j u at. inr at }
  ]

  -- a place that leads into a region stays, unless it is the field that is written
  pub write-stays : (r : ℕ) → Placed held m r → Placed held next r ⊎ (is_into m.store r (field_of o k) ≡ true)
  write-stays r (inl s) = inl (inl (slot-over m next r s s.holder_there (into-set r s.value ∙ s.into)))
  write-stays r (inr l) = elim (set-old m.store a l.0.object n l.0.holder l.0.holder_there) [
    | inl same ↦
        (let holder : o ≡ l.0.holder = same_Some o l.0.holder (sym there ∙ ap (slice_get m.store) same ∙ l.0.holder_there) in
        let at : slice_get o.fields l.0.field ≡ Some l.0.value = ap (λ (q : Seen). slice_get q.fields l.0.field) holder ∙ l.0.value_there in
        elim (set-old o.fields k l.0.field v l.0.value at) [
          | inl it ↦ inr (ap (λ (s : Option Val). is_into m.store r (unwrap_or s val.Nil)) (ap (slice_get o.fields) it ∙ at) ∙ l.0.into)
          | inr stays ↦ inl (inr (
            field-into a l.0.field n l.0.value (get-set m.store a n o there) stays
                (ap (λ (q : Seen). is_outside m.windows r q.label) holder ∙ l.0.outside) (into-set r l.0.value ∙ l.0.into),
            here,
          ))
        ])
    | inr stays ↦ inl (inr (field-over m next r l.0 stays l.0.outside (into-set r l.0.value ∙ l.0.into), l.1))
  ]

  window-owners : (ws : List Window) → OwnersHeld held m.store ws → OwnersHeld held store ws
  window-owners ws h = owners-over held held m.store store ws (λ vs b q up here at is. (here, of vs b q at is)) h
    where
      of : (vs : List Window) (b : ℕ) (q : Seen) → slice_get m.store b ≡ Some q → is_of vs q.label ≡ true
          → (q : Seen) × (slice_get store b ≡ Some q) × (is_of vs q.label ≡ true)
      of vs b q at is = elim (set-old m.store a b n q at) [
        | inl same ↦
            (let e : o ≡ q = same_Some o q (sym there ∙ ap (slice_get m.store) same ∙ at) in
            (n, ap (slice_get store) (sym same) ∙ get-set m.store a n o there, ap (λ (q : Seen). is_of vs q.label) e ∙ is))
        | inr stays ↦ (q, stays, is)
      ]

  size : length store ≡ length m.store
  size = length-set m.store a n

  made-leads : (u : Val) → leads_to (λ b. nat_lt b (length m.store)) u ≡ true → leads_to (λ b. nat_lt b (length store)) u ≡ true
  made-leads u h = ap (λ s. leads_to (λ b. nat_lt b s) u) size ∙ h

  pub part-write : (kept left : List Val) → AllLead held left
      → ((r : ℕ) → is_open m.windows r ≡ false → is_into m.store r (field_of o k) ≡ true
      → Placed held next r ⊎ (list_any (is_into m.store r) kept ≡ true))
      → ((r : ℕ) → is_open m.windows r ≡ false → list_any (is_into m.store r) owners ≡ true
      → Placed held next r ⊎ (list_any (is_into m.store r) kept ≡ true))
      → Part held kept (record f { store = slice_set f.store a n }) next left
  part-write kept left leads lost move = whole held kept (record f { store = slice_set f.store a n }) next left (record {
    around = around-objects held owners f m stack p (slice_set f.store a n) store;
    held_managers = λ b h r e at lies. (let w = was b h at in p.held_managers b w.before r e w.found (w.label ∙ lies));
    objects_made = length-set f.store a n ∙ p.objects_made ∙ sym size;
    there = λ b e. (let l = p.there b e in let s = size in omega (arith, l, s));
    same = λ b e. elim (cases_Bool (a == b)) [
      | inl eq ↦
          (let i = eqb-true a b eq in
          ap (slice_get (slice_set f.store a n)) (sym i) ∙ get-set f.store a n o (p.same a here ∙ there)
          ∙ sym (ap (slice_get store) (sym i) ∙ get-set m.store a n o there))
      | inr other ↦ set-apart f.store a b n (differs b other) ∙ p.same b e ∙ sym (set-apart m.store a b n (differs b other))
    ];
    others = λ b e. elim (cases_Bool (a == b)) [
      | inl eq ↦ clash (held b) (ap held (sym (eqb-true a b eq)) ∙ here) e
      | inr other ↦ set-apart f.store a b n (differs b other) ∙ p.others b e
          ∙ ap (option_map (λ (q : Seen). gone)) (sym (set-apart m.store a b n (differs b other)))
    ];
    temps = λ b h i e at lies. (let w = was b h at in p.temps b w.before i e w.found (w.label ∙ lies));
    slots = p.slots;
    on_stack = leads;
    fields = λ b h j u e at field. (let w = was b h at in elim (w.fields j u field) [
      | inl is ↦ ap (leads_to held) is.0 ∙ lead
      | inr old ↦ p.fields b w.before j u e w.found old
    ]);
    owned = λ b h r e at lies c. (let w = was b h at in elim (p.owned b w.before r e w.found (w.label ∙ lies) c) [
      | inl placed ↦ elim (write-stays r placed) [
        | inl stays ↦ inl stays
        | inr old ↦ elim (lost r c old) [ inl placed ↦ inl placed | inr any ↦ inr (any-set r kept ∙ any) ]
      ]
      | inr any ↦ elim (move r c any) [ inl placed ↦ inl placed | inr any ↦ inr (any-set r kept ∙ any) ]
    ]);
    window_owners = window-owners m.windows p.window_owners;
    tidy = tidy-objects m store p.tidy
        (λ b h r at lies. (let w = was b h at in p.tidy.labels b w.before r w.found (w.label ∙ lies)))
        (λ b h j u at field. (let w = was b h at in made-leads u (elim (w.fields j u field) [
          | inl is ↦ ap (leads_to (λ b. nat_lt b (length m.store))) is.0
              ∙ lead-more held (λ b. nat_lt b (length m.store)) v (λ b e. (let l = p.there b e in grind (arith, l))) lead
          | inr old ↦ p.tidy.fields b w.before j u w.found old
        ])))
        (λ b h q j u l at lies field is. (let w = was b h at in elim (w.fields j u field) [
          | inl new ↦ may q l (new.1 ∙ lies) (ap (label_of m.store) (sym new.0) ∙ sym (label-set u) ∙ is)
          | inr old ↦ p.tidy.inside b w.before q j u l w.found (w.label ∙ lies) old (sym (label-set u) ∙ is)
        ]));
  }) (λ b h i e at lies. (let w = was b h at in p.lost_temps b w.before i e w.found (w.label ∙ lies)))
