-- Objects and regions that are made.
use Rattle.std.proofs.Common.{◌≡◌, ℕ, suc, ◌==◌, ◌<◌, ◌⊎◌, inl, inr, true, false, Bool as Truth, List, [], ◌∷◌, ◌++◌, length}
use Rattle.std.proofs.Common.{Option, Some, None, option_and_then, option_map, refl, sym, ap, ◌∙◌, arith, slice_get}
use Rattle.std.proofs.lemmas.Bool.{eq-eqb, eqb-true, or_cases, cases_Bool, lt-ltb, ltb-true}
use Rattle.std.proofs.lemmas.List.{length_push}
use Rattle.std.proofs.lemmas.Option.{slice_get_within}
use Rattle.std.proofs.lemmas.Map.Keys.{any_passes_from_place}
use Rattle.std.specs.Prelude.{◌||◌, nat_lt}
use Rattle.std.specs.List.{list_any}
use Rattle.rg_base.specs.declared.object.Label.{Label}
use Rattle.rg_base.specs.declared.object.Label.TheVariants.{Region, Temp}
use Rattle.rg_base.specs.declared.object.Place.{Place}
use Rattle.rg_base.specs.declared.object.Place.TheVariants as place
use Rattle.rg_base.specs.declared.object.Seen.{Seen}
use Rattle.rg_base.specs.declared.words.Manager.{Manager}
use Rattle.rg_base.specs.declared.value.Val.{Val}
use Rattle.rg_base.specs.declared.value.Val.TheVariants as val
use Rattle.rg_tree.proofs.TreesFrom.{slice_get-push}
use Rattle.rg_stack.specs.Machine.{Window, Machine}
use Rattle.rg_stack.specs.Labels.{has_window, label_of, lies_in, is_into}
use Rattle.rg_stack.proofs.Basics.{none-some, or-left}
use Rattle.rg_held.specs.Gone.{gone}
use Rattle.rg_held.specs.Part.{leads_to, Placed, Part, OwnerHeld, OwnersHeld}
use Rattle.rg_held.proofs.Lists.{off, push-back, push-old, push-below, push-past}
use Rattle.rg_held.proofs.Lists.{any-at}
use Rattle.rg_held.proofs.Places.{or-right, clash, region-into}
use Rattle.rg_held.proofs.Parts.Half.{around-objects, tidy-objects, whole}
use Rattle.rg_held.proofs.Parts.Part.{lead-any, lead-more, all-more, part-beside, slot-over, field-over}

-- no reference
abbrev pub Plain : Val → Type 0
Plain v = leads_to (λ a. false) v ≡ true

plain-leads : (test : ℕ → Truth) (v : Val) → Plain v → leads_to test v ≡ true
plain-leads test val.Nil h = refl
plain-leads test (val.Int z) h = refl
plain-leads test (val.Bool b) h = refl
plain-leads test (val.Obj a) h = off h

plain-label : {B : Type 0} (store : List Seen) (v : Val) (l : Label) → Plain v → label_of store v ≡ Some l → B
plain-label store val.Nil l h e = none-some l e
plain-label store (val.Int z) l h e = none-some l e
plain-label store (val.Bool b) l h e = none-some l e
plain-label store (val.Obj a) l h e = off h

-- a region that is made
pub part-region : (held : ℕ → Truth) (owners : List Val) (f m : Machine) (stack : List Val) (g : Manager) → Part held owners f m stack
    → Part held owners (record f { managers = f.managers ++ g ∷ [] }) (record m { managers = m.managers ++ g ∷ [] }) stack
part-region held owners f m stack g p =
    part-beside held owners f m stack p f.frames m.frames (f.managers ++ g ∷ []) (m.managers ++ g ∷ []) f.at m.at owners stack p.frames p.at
    (let a = length_push f.managers g in let b = length_push m.managers g in let c = p.managers_made in omega (arith, a, b, c))
    (let b = length_push m.managers g in omega (arith, b)) (λ r o. below r (p.tidy.regions r o) (p.open_managers r o))
    (λ a o r h there lies. below r (p.tidy.labels a o r there lies) (p.held_managers a o r h there lies)) p.slots p.on_stack
    (λ r c s. inl (slot-over m (record m { managers = m.managers ++ g ∷ [] }) r s s.holder_there s.into)) (λ r c any. inr any)
  where
    below : (r : ℕ) → r < length m.managers → slice_get f.managers r ≡ slice_get m.managers r
        → slice_get (f.managers ++ g ∷ []) r ≡ slice_get (m.managers ++ g ∷ []) r
    below r less e =
        let made = p.managers_made in let more : r < length f.managers = omega (arith, less, made) in
        push-below f.managers g r more ∙ e ∙ sym (push-below m.managers g r less)

-- an object that may be made
pub record NewFits (f m : Machine) (o : Seen) : Type 0 where
  pub plain : (k : ℕ) (v : Val) → slice_get o.fields k ≡ Some v → Plain v
  pub regions : (r : ℕ) → o.label ≡ Region r → r < length m.managers
  pub managers : (r : ℕ) → o.label ≡ Region r → slice_get f.managers r ≡ slice_get m.managers r
  pub temps : (n : ℕ) → o.label ≡ Temp n → has_window m.windows n ≡ true

-- what is held with it
abbrev pub with_new : (ℕ → Truth) → ℕ → ℕ → Truth
with_new held n a = held a || (a == n)

module _ (held : ℕ → Truth) (f m : Machine) (stack : List Val) (o : Seen) (p : Part held stack f m stack) (fits : NewFits f m o) where
  abbrev n : ℕ
  n = length m.store

  abbrev also : ℕ → Truth
  also = with_new held n

  more : (a : ℕ) → held a ≡ true → also a ≡ true
  more a h = ap (λ b. b || (a == n)) h

  is-new : also n ≡ true
  is-new = by (held n)
    where
      by : (b : Truth) → (b || (n == n)) ≡ true
      by true = refl
      by false = eq-eqb n n refl

  old : (a : ℕ) → also a ≡ true → (held a ≡ true) ⊎ (a ≡ n)
  old a h = elim (or_cases (held a) (a == n) h) [ inl was ↦ inl was | inr new ↦ inr (eqb-true a n new) ]

  label-new : (v : Val) → leads_to (λ a. nat_lt a n) v ≡ true → label_of (m.store ++ o ∷ []) v ≡ label_of m.store v
  label-new val.Nil h = refl
  label-new (val.Int z) h = refl
  label-new (val.Bool b) h = refl
  label-new (val.Obj a) h = ap (option_and_then (λ (o : Seen). Some o.label)) (push-below m.store o a (ltb-true a n h))

  below : (v : Val) → leads_to held v ≡ true → leads_to (λ a. nat_lt a n) v ≡ true
  below v h = lead-more held (λ a. nat_lt a n) v (λ a e. lt-ltb a n (p.there a e)) h

  into-new : (r : ℕ) (v : Val) → leads_to (λ a. nat_lt a n) v ≡ true → is_into m.store r v ≡ true → is_into (m.store ++ o ∷ []) r v ≡ true
  into-new r v h into = ap (λ (l : Option Label). elim l [ None ↦ false | Some l ↦ lies_in r l ]) (label-new v h) ∙ into

  abbrev next : Machine
  next = record m { store = m.store ++ o ∷ [] }

  -- what is found behind it
  found : (a : ℕ) (h : Seen) → also a ≡ true → slice_get (m.store ++ o ∷ []) a ≡ Some h → (h ≡ o) ⊎ ((slice_get m.store a ≡ Some h) × (held a ≡ true))
  found a h e there = elim (push-back m.store o h a there) [
    | inl new ↦ inl new.1
    | inr was ↦ inr (
      was,
      elim (old a e) [
        | inl here ↦ here
        | inr at ↦ (let less = slice_get_within m.store a h was in absurd (omega (arith, less, at)))
      ],
    )
  ]

  stays : (r : ℕ) → Placed held m r → Placed also next r
  stays r (inl s) = inl (slot-over m next r s s.holder_there
      (into-new r s.value (below s.value (p.slots s.frame s.holder s.slot s.value s.holder_there s.value_there)) s.into))
  stays r (inr l) = inr (
    field-over m next r l.0 (push-old m.store o l.0.holder l.0.object l.0.holder_there) l.0.outside
        (into-new r l.0.value (p.tidy.fields l.0.object l.0.holder l.0.field l.0.value l.0.holder_there l.0.value_there) l.0.into),
    more l.0.object l.1,
  )

  on-stack : (r : ℕ) → list_any (is_into m.store r) stack ≡ true → list_any (is_into (m.store ++ o ∷ []) r) (val.Obj n ∷ stack) ≡ true
  on-stack r any =
      let h = any-at (is_into m.store r) stack any in
      any_passes_from_place (is_into (m.store ++ o ∷ []) r) (val.Obj n ∷ stack) (suc h.0) h.1.0 h.1.1
      (into-new r h.1.0 (below h.1.0 (lead-any held stack h.0 h.1.0 p.on_stack h.1.1)) h.1.2)

  made-there : slice_get (f.store ++ o ∷ []) n ≡ Some o
  made-there = ap (slice_get (f.store ++ o ∷ [])) (sym p.objects_made) ∙ slice_get-push f.store o

  window-owners : (ws : List Window) → OwnersHeld held m.store ws → OwnersHeld also (m.store ++ o ∷ []) ws
  window-owners [] h = tt
  window-owners (w ∷ ws) h = (by w.owner h.0, window-owners ws h.1)
    where
      by : (at : Option Place) → OwnerHeld held m.store ws at → OwnerHeld also (m.store ++ o ∷ []) ws at
      by None h = tt
      by (Some (place.Var i j)) h = tt
      by (Some (place.Field a k)) h = (more a h.0, (h.1.0, push-old m.store o h.1.0 a h.1.1, h.1.2))

  others : (a : ℕ) → also a ≡ false → slice_get (f.store ++ o ∷ []) a ≡ option_map (λ (q : Seen). gone) (slice_get (m.store ++ o ∷ []) a)
  others a h = elim (cases_Bool (nat_lt a n)) [
    | inl less ↦
        (let l = ltb-true a n less in let made = p.objects_made in let k : a < length f.store = omega (arith, l, made) in
        push-below f.store o a k ∙ p.others a (or-left (held a) (a == n) h) ∙ ap (option_map (λ (q : Seen). gone)) (sym (push-below m.store o a l)))
    | inr past ↦
        (let other = or-right (held a) (a == n) h in
        let l : length m.store < a = grind (arith, past, other) in let made = p.objects_made in
        let k : length f.store < a = omega (arith, l, made) in
        push-past f.store o a k ∙ ap (option_map (λ (q : Seen). gone)) (sym (push-past m.store o a l)))
  ]

  pub part-new : Part also (val.Obj n ∷ stack) (record f { store = f.store ++ o ∷ [] }) next (val.Obj n ∷ stack)
  part-new = whole also (val.Obj n ∷ stack) (record f { store = f.store ++ o ∷ [] }) next (val.Obj n ∷ stack) (record {
    around = around-objects held stack f m stack p (f.store ++ o ∷ []) (m.store ++ o ∷ []);
    held_managers = λ a h r e there lies. elim (found a h e there) [
      | inl new ↦ fits.managers r (ap (λ (q : Seen). q.label) (sym new) ∙ lies)
      | inr was ↦ p.held_managers a h r was.1 was.0 lies
    ];
    objects_made = (let a = length_push f.store o in let b = length_push m.store o in let c = p.objects_made in omega (arith, a, b, c));
    there = λ a e. (let b = length_push m.store o in elim (old a e) [
      | inl was ↦ (let l = p.there a was in omega (arith, b, l))
      | inr new ↦ omega (arith, b, new)
    ]);
    same = λ a e. elim (old a e) [
      | inl was ↦
          (let l = p.there a was in let made = p.objects_made in let k : a < length f.store = omega (arith, l, made) in
          push-below f.store o a k ∙ p.same a was ∙ sym (push-below m.store o a l))
      | inr new ↦ ap (slice_get (f.store ++ o ∷ [])) new ∙ made-there ∙ sym (ap (slice_get (m.store ++ o ∷ [])) new ∙ slice_get-push m.store o)
    ];
    others = others;
    temps = λ a h k e there lies. elim (found a h e there) [
      | inl new ↦ fits.temps k (ap (λ (q : Seen). q.label) (sym new) ∙ lies)
      | inr was ↦ p.temps a h k was.1 was.0 lies
    ];
    slots = λ i h s v there at. lead-more held also v more (p.slots i h s v there at);
    on_stack = (is-new, all-more held also stack more p.on_stack);
    fields = λ a h k v e there at. elim (found a h e there) [
      | inl new ↦ plain-leads also v (fits.plain k v (ap (λ (q : Seen). slice_get q.fields k) (sym new) ∙ at))
      | inr was ↦ lead-more held also v more (p.fields a h k v was.1 was.0 at)
    ];
    owned = λ a h r e there lies c. elim (found a h e there) [
      | inl new ↦ inr (ap (λ b. b || list_any (is_into (m.store ++ o ∷ []) r) stack)
          (region-into (m.store ++ o ∷ []) r n o (slice_get-push m.store o) (ap (λ (q : Seen). q.label) (sym new) ∙ lies)))
      | inr was ↦ elim (p.owned a h r was.1 was.0 lies c) [ inl placed ↦ inl (stays r placed) | inr any ↦ inr (on-stack r any) ]
    ];
    window_owners = window-owners m.windows p.window_owners;
    tidy = tidy-objects m (m.store ++ o ∷ []) p.tidy
        (λ a h r there lies. elim (push-back m.store o h a there) [
          | inl new ↦ fits.regions r (ap (λ (q : Seen). q.label) (sym new.1) ∙ lies)
          | inr was ↦ p.tidy.labels a h r was lies
        ])
        (λ a h k v there at. elim (push-back m.store o h a there) [
          | inl new ↦ plain-leads (λ b. nat_lt b (length (m.store ++ o ∷ []))) v
              (fits.plain k v (ap (λ (q : Seen). slice_get q.fields k) (sym new.1) ∙ at))
          | inr was ↦ lead-more (λ b. nat_lt b n) (λ b. nat_lt b (length (m.store ++ o ∷ []))) v (λ b e.
              (let l = ltb-true b n e in let g = length_push m.store o in lt-ltb b (length (m.store ++ o ∷ [])) (omega (arith, l, g))))
              (p.tidy.fields a h k v was at)
        ])
        (λ a h q k v l there lies at is. elim (push-back m.store o h a there) [
          | inl new ↦ plain-label (m.store ++ o ∷ []) v l (fits.plain k v (ap (λ (q : Seen). slice_get q.fields k) (sym new.1) ∙ at)) is
          | inr was ↦ p.tidy.inside a h q k v l was lies at (sym (label-new v (p.tidy.fields a h k v was at)) ∙ is)
        ]);
  }) (λ a h k e there lies. elim (push-back m.store o h a there) [
    | inl new ↦ clash (a == n) (eq-eqb a n new.0) (or-right (held a) (a == n) e)
    | inr was ↦ p.lost_temps a h k (or-left (held a) (a == n) e) was lies
  ])
