-- A window that opens, beside that over the growing store.
use Rattle.std.proofs.Common.{◌≡◌, ℕ, ◌+◌, ◌==◌, ◌<◌, ◌⊎◌, inl, inr, true, false, not, Bool as Truth, List, [], ◌∷◌}
use Rattle.std.proofs.Common.{length, Option, Some, None, unwrap_or, Ok, Err, refl, sym, ap, subst, ◌∙◌, arith, slice_get}
use Rattle.std.proofs.lemmas.Option.{same_Some}
use Rattle.std.proofs.lemmas.Bool.{not-true, eq-eqb, eqb-true, or_cases, cases_Bool, ne_eqb}
use Rattle.std.specs.Prelude.{◌||◌, ◌&&◌, nat_lt, ok_or, if◌then◌else◌}
use Rattle.rg_base.specs.declared.object.Label.{Label}
use Rattle.rg_base.specs.declared.object.Label.TheVariants.{Region, Temp, Frozen}
use Rattle.rg_base.specs.declared.object.Place.{Place}
use Rattle.rg_base.specs.declared.object.Place.TheVariants as place
use Rattle.rg_base.specs.declared.object.Seen.{Seen}
use Rattle.rg_base.specs.declared.outcome.Trap.TheVariants as trap
use Rattle.rg_base.specs.declared.value.Val.{Val}
use Rattle.rg_base.specs.declared.value.Val.TheVariants as val
use Rattle.rg_rules.specs.Regions.{region_of}
use Rattle.rg_code.specs.declared.op.Op.TheVariants as i
use Rattle.rg_code.specs.Code.{Code}
use Rattle.rg_stack.specs.Machine.{Window, Machine, top_slots, slot_at, place_of}
use Rattle.rg_stack.specs.Effects.{Walked, Stuck, Traps, Go, act, opens_at, begins_by, on_object}
use Rattle.rg_stack.specs.Tops.{Work, entered, frame_number}
use Rattle.rg_stack.specs.Tops.{top_region, top_window}
use Rattle.rg_stack.specs.Needs.{is_closed, owns_or_nil, owned_once}
use Rattle.rg_stack.specs.Places.{is_writable, is_field}
use Rattle.rg_stack.specs.Labels.{is_open, has_window, label_of, is_into, is_outside}
use Rattle.rg_stack.specs.Needs.{needs}
use Rattle.rg_stack.specs.Places.{field_of}
use Rattle.rg_stack.proofs.Basics.{and-left, and-right}
use Rattle.rg_held.specs.Frees.{free_act}
use Rattle.rg_held.specs.Part.{leads_to, FieldInto, Placed, Part, OwnerHeld, is_of, may_lead, is_shut_or_above}
use Rattle.rg_held.specs.Ends.{Match, SameEnd}
use Rattle.rg_held.specs.Laws.{owners_of, GoesOn}
use Rattle.rg_held.proofs.Lists.{off}
use Rattle.rg_held.proofs.Places.{or-right, clash, top-open}
use Rattle.rg_held.proofs.Places.{not-closed, region-into, label-into, label-there, into-label}
use Rattle.rg_held.proofs.Acts.Stack.{match-more, slot-leads, slot-same, field-leads}
use Rattle.rg_held.proofs.Parts.Slot.{part-put}
use Rattle.rg_held.proofs.Acts.Release.{slot-at-into, slot-and-field, two-fields}
use Rattle.rg_held.proofs.Parts.Part.{part-stack, part-owners, slot-over, field-over}
use Rattle.rg_held.proofs.Acts.Object.{top-numbered, writable-open}
use Rattle.rg_held.proofs.Acts.Consume.{closed-region}

-- a window comes
module _ (held : ℕ → Truth) (f m : Machine) (p : Part held [] f m []) (w : Window) (fw : List Window) (made : ℕ) (same_windows : fw ≡ w ∷ m.windows)
    (same_made : made ≡ m.windows_made + 1) (numbered : w.number ≡ m.windows_made) (c : is_open m.windows w.region ≡ false)
    (less : w.region < length m.managers) (manager : slice_get f.managers w.region ≡ slice_get m.managers w.region)
    (owner : OwnerHeld held m.store m.windows w.owner)
    (beneath : (a : ℕ) (o : Seen) (q k : ℕ) (v : Val) → slice_get m.store a ≡ Some o → o.label ≡ Region q → slice_get o.fields k ≡ Some v
    → label_of m.store v ≡ Some (Region w.region) → (q ≡ w.region) ⊎ (is_open m.windows q ≡ true)) where
  abbrev wider : Machine
  wider = record m { windows = w ∷ m.windows; windows_made = m.windows_made + 1 }

  more : (n : ℕ) → has_window m.windows n ≡ true → has_window (w ∷ m.windows) n ≡ true
  more n h = by (w.number == n)
    where
      by : (b : Truth) → (b || has_window m.windows n) ≡ true
      by true = refl
      by false = h

  shut : (r : ℕ) → is_open (w ∷ m.windows) r ≡ false → is_open m.windows r ≡ false
  shut r h = or-right (w.region == r) (is_open m.windows r) h

  fresh : has_window m.windows w.number ≡ false
  fresh = elim (cases_Bool (has_window m.windows w.number)) [
    | inl h ↦ (let l = p.tidy.numbers w.number h in absurd (omega (arith, l, numbered)))
    | inr h ↦ h
  ]

  stays : (r : ℕ) → Placed held m r → Placed held wider r
  stays r (inl s) = inl (slot-over m wider r s s.holder_there s.into)
  stays r (inr l) = inr (field-over m wider r l.0 l.0.holder_there (by l.0.holder.label l.0.outside) l.0.into, l.1)
    where
      by : (l : Label) → is_outside m.windows r l ≡ true → is_outside (w ∷ m.windows) r l ≡ true
      by (Region q) h = h
      by (Temp n) h = more n h
      by Frozen h = refl

  leads : (q : ℕ) (l : Label) → may_lead m.windows q l ≡ true → (l ≡ Region w.region → (q ≡ w.region) ⊎ (is_open m.windows q ≡ true))
      → may_lead (w ∷ m.windows) q l ≡ true
  leads q (Temp n) h new = off h
  leads q Frozen h new = refl
  leads q (Region r) h new = by (r == q) refl (w.region == r) refl h
    where
      by : (b : Truth) → (r == q) ≡ b → (d : Truth) → (w.region == r) ≡ d → (b || is_shut_or_above m.windows r q) ≡ true
          → (b || (if d then is_open m.windows q else is_shut_or_above m.windows r q)) ≡ true
      by true x d y h = refl
      by false x false y h = h
      by false x true y h = (let e = eqb-true w.region r y in elim (new (ap Region (sym e))) [
        | inl same ↦ clash (r == q) (eq-eqb r q (sym e ∙ sym same)) x
        | inr opened ↦ opened
      ])

  pub part-window : Part held [] (record f { windows = fw; windows_made = made }) wider []
  part-window = record {
    frames = p.frames;
    windows = same_windows;
    windows_made = same_made;
    at = p.at;
    managers_made = p.managers_made;
    open_managers = λ r h. elim (or_cases (w.region == r) (is_open m.windows r) h) [
      | inl same ↦ (let e = eqb-true w.region r same in ap (slice_get f.managers) (sym e) ∙ manager ∙ ap (slice_get m.managers) e)
      | inr old ↦ p.open_managers r old
    ];
    held_managers = p.held_managers;
    objects_made = p.objects_made;
    there = p.there;
    same = p.same;
    others = p.others;
    temps = λ a o n e at lies. more n (p.temps a o n e at lies);
    lost_temps = λ a o n e at lies. (let l = p.lost_temps a o n e at lies in let less = l.0 in (
      omega (arith, less),
      ap (λ b. b || has_window m.windows n) (ne_eqb w.number n (λ same. omega (arith, less, same, numbered))) ∙ l.1,
    ));
    slots = p.slots;
    on_stack = p.on_stack;
    fields = p.fields;
    owned = λ a o r e at lies h. elim (p.owned a o r e at lies (shut r h)) [ inl placed ↦ inl (stays r placed) | inr none ↦ inr none ];
    window_owners = (owner, p.window_owners);
    tidy = record {
      some_window = tt;
      differ = (c, fresh, p.tidy.differ);
      numbers = λ n h. elim (or_cases (w.number == n) (has_window m.windows n) h) [
        | inl same ↦ (let e = eqb-true w.number n same in omega (arith, e, numbered))
        | inr old ↦ (let l = p.tidy.numbers n old in omega (arith, l))
      ];
      regions = λ r h. elim (or_cases (w.region == r) (is_open m.windows r) h) [
        | inl same ↦ (let e = eqb-true w.region r same in omega (arith, e, less))
        | inr old ↦ p.tidy.regions r old
      ];
      labels = p.tidy.labels;
      fields = p.tidy.fields;
      inside = λ a o q k v l at lies field is. leads q l (p.tidy.inside a o q k v l at lies field is)
          (λ e. beneath a o q k v at lies field (is ∙ ap Some e));
    };
  }

-- where a window can be opened
opens-same : (u w : Work) (z : ℕ) (x y : Walked) → u.machine.frames ≡ w.machine.frames → u.machine.windows ≡ w.machine.windows → SameEnd x y
    → SameEnd (opens_at u.machine z x) (opens_at w.machine z y)
opens-same u w z x y frames windows h =
    subst (λ fs. SameEnd (if nat_lt z (length (top_slots fs)) then (if begins_by u.machine.windows (place_of fs z) then x else Stuck) else Stuck)
    (opens_at w.machine z y)) (sym frames)
    (subst (λ ws. SameEnd (if nat_lt z (length (top_slots w.machine.frames)) then (if begins_by ws (place_of w.machine.frames z) then x else Stuck)
    else Stuck) (opens_at w.machine z y)) (sym windows)
    (by (nat_lt z (length (top_slots w.machine.frames))) (begins_by w.machine.windows (place_of w.machine.frames z))))
  where
    by : (b d : Truth) → SameEnd (if b then (if d then x else Stuck) else Stuck) (if b then (if d then y else Stuck) else Stuck)
    by true true = h
    by true false = tt
    by false d = tt

-- a window on the region of an object, whose bridge goes into a slot
entered-same : (u w : Work) (m : Match [] u w []) (owner : Place) (b : ℕ) (o : Seen) (z r : ℕ) → slice_get w.machine.store b ≡ Some o
    → o.label ≡ Region r → m.0 b ≡ true → is_open w.machine.windows r ≡ false → is_closed w.machine (slot_at w.machine z) ≡ false
    → OwnerHeld m.0 w.machine.store w.machine.windows (Some owner)
    → ((a : ℕ) (o : Seen) (q k : ℕ) (v : Val) → slice_get w.machine.store a ≡ Some o → o.label ≡ Region q → slice_get o.fields k ≡ Some v
    → label_of w.machine.store v ≡ Some (Region r) → (q ≡ r) ⊎ (is_open w.machine.windows q ≡ true))
    → Match [] (entered u owner (val.Obj b) z (Some r)) (entered w owner (val.Obj b) z (Some r)) []
entered-same u w m owner b o z r there lies here c free mine beneath = (
  m.0,
  record {
    machine = part-put m.0 [] (record u.machine { windows = fresh u.machine ∷ u.machine.windows; windows_made = u.machine.windows_made + 1 })
        (record w.machine { windows = fresh w.machine ∷ w.machine.windows; windows_made = w.machine.windows_made + 1 }) []
        (part-window m.0 u.machine w.machine p (fresh w.machine) (fresh u.machine ∷ u.machine.windows) (u.machine.windows_made + 1)
        (ap (λ ws. fresh u.machine ∷ ws) p.windows ∙ ap (λ n. record {
          number = n;
          region = r;
          owner = Some owner;
          base = place_of u.machine.frames z;
        }
        ∷ w.machine.windows) p.windows_made
        ∙ ap (λ fs. record { number = w.machine.windows_made; region = r; owner = Some owner; base = place_of fs z } ∷ w.machine.windows) p.frames)
        (ap (λ n. n + 1) p.windows_made) refl c (p.tidy.labels b o r there lies) (p.held_managers b o r here there lies) mine beneath)
        z (val.Obj b) [] [] here tt
        (λ q d into. not-closed w.machine (slot_at w.machine z) q free into (or-right (r == q) (is_open w.machine.windows q) d))
        (λ q d none. off none);
    input = m.1.input;
    printed = m.1.printed;
  },
)
  where
    p : Part m.0 [] u.machine w.machine []
    p = m.1.machine

    fresh : Machine → Window
    fresh n = record { number = n.windows_made; region = r; owner = Some owner; base = place_of n.frames z }

module _ (also go : Go) (u w : Work) (z : ℕ) (owner : Place) (m : Match [] u w []) (next : GoesOn true also go)
    (free : is_closed w.machine (slot_at w.machine z) ≡ false) (mine : OwnerHeld m.0 w.machine.store w.machine.windows (Some owner)) where
  -- the bridge is looked at
  pub bridge-same : (v : Val) → leads_to m.0 v ≡ true → owns_or_nil w.machine v ≡ true
      → ((r : ℕ) → is_open w.machine.windows r ≡ false → is_into w.machine.store r v ≡ true → (a : ℕ) (o : Seen) (q k : ℕ) (x : Val)
      → slice_get w.machine.store a ≡ Some o → o.label ≡ Region q → slice_get o.fields k ≡ Some x → label_of w.machine.store x ≡ Some (Region r)
      → (q ≡ r) ⊎ (is_open w.machine.windows q ≡ true))
      → SameEnd (on_object u.machine.store v (λ o. also 0 [] (entered u owner v z (region_of o.label))))
      (on_object w.machine.store v (λ o. go 0 [] (entered w owner v z (region_of o.label))))
  bridge-same val.Nil lead owns beneath = refl
  bridge-same (val.Int x) lead owns beneath = refl
  bridge-same (val.Bool b) lead owns beneath = refl
  bridge-same (val.Obj b) lead owns beneath =
      subst (λ x. SameEnd (elim (ok_or {T = Seen} x trap.Nil) [
        | Ok o ↦ also 0 [] (entered u owner (val.Obj b) z (region_of o.label))
        | Err t ↦ Traps t
      ]) (on_object w.machine.store (val.Obj b) (λ o. go 0 [] (entered w owner (val.Obj b) z (region_of o.label)))))
      (sym (m.1.machine.same b lead)) (by (slice_get w.machine.store b) refl)
    where
      by : (x : Option Seen) → slice_get w.machine.store b ≡ x → SameEnd (elim (ok_or {T = Seen} x trap.Nil) [
        | Ok o ↦ also 0 [] (entered u owner (val.Obj b) z (region_of o.label))
        | Err t ↦ Traps t
      ]) (elim (ok_or {T = Seen} x trap.Nil) [
        | Ok o ↦ go 0 [] (entered w owner (val.Obj b) z (region_of o.label))
        | Err t ↦ Traps t
      ])
      by None e = refl
      by (Some o) e =
          let c = closed-region w.machine b o e owns in
          let P : Option ℕ → Type 0 = λ q. SameEnd (also 0 [] (entered u owner (val.Obj b) z q)) (go 0 [] (entered w owner (val.Obj b) z q)) in
          subst P (sym (ap region_of c.1))
          (next [] (entered u owner (val.Obj b) z (Some c.0)) (entered w owner (val.Obj b) z (Some c.0))
          (entered-same u w m owner b o z c.0 e c.1 lead c.2 free mine
          (beneath c.0 c.2 (region-into w.machine.store c.0 b o e c.1))))

module _ (code : Code) (at : ℕ) (also go : Go) (u w : Work) (taken : Truth) where
  pub enter-same : (s z : ℕ) (stack : List Val) → needs code (i.Enter s z) stack w.machine ≡ true → Match (owners_of taken stack) u w stack
      → GoesOn true also go → SameEnd (free_act code at (i.Enter s z) also stack u) (act code at (i.Enter s z) go stack w)
  enter-same s z (x ∷ more) n m next = off n
  enter-same s z [] n m next = opens-same u w z
      (on_object u.machine.store (slot_at u.machine s)
      (λ o. also 0 [] (entered u (place.Var (frame_number u.machine.frames) s) (slot_at u.machine s) z (region_of o.label))))
      (on_object w.machine.store (slot_at w.machine s)
      (λ o. go 0 [] (entered w (place.Var (frame_number w.machine.frames) s) (slot_at w.machine s) z (region_of o.label))))
      p.frames p.windows
      (subst (λ v. SameEnd (on_object u.machine.store v (λ o. also 0 [] (entered u (place.Var (frame_number u.machine.frames) s) v z
      (region_of o.label)))) right) (sym (slot-same now.0 [] u.machine w.machine [] p s))
      (subst (λ k. SameEnd (on_object u.machine.store (slot_at w.machine s) (λ o. also 0 [] (entered u (place.Var k s) (slot_at w.machine s) z
      (region_of o.label)))) right) (sym (ap frame_number p.frames))
      (bridge-same also go u w z (place.Var (frame_number w.machine.frames) s) now next free tt (slot_at w.machine s)
      (slot-leads now.0 [] u.machine w.machine [] p s) owns beneath)))
    where
      now : Match [] u w []
      now = match-more taken u w [] m

      p : Part now.0 [] u.machine w.machine []
      p = now.1.machine

      right : Walked
      right = on_object w.machine.store (slot_at w.machine s)
          (λ o. go 0 [] (entered w (place.Var (frame_number w.machine.frames) s) (slot_at w.machine s) z (region_of o.label)))

      first : (owned_once w.machine && owns_or_nil w.machine (slot_at w.machine s)) ≡ true
      first = and-left (owned_once w.machine && owns_or_nil w.machine (slot_at w.machine s)) (not (is_closed w.machine (slot_at w.machine z))) n

      free : is_closed w.machine (slot_at w.machine z) ≡ false
      free = not-true (is_closed w.machine (slot_at w.machine z))
          (and-right (owned_once w.machine && owns_or_nil w.machine (slot_at w.machine s)) (not (is_closed w.machine (slot_at w.machine z))) n)

      once : owned_once w.machine ≡ true
      once = and-left (owned_once w.machine) (owns_or_nil w.machine (slot_at w.machine s)) first

      owns : owns_or_nil w.machine (slot_at w.machine s) ≡ true
      owns = and-right (owned_once w.machine) (owns_or_nil w.machine (slot_at w.machine s)) first

      beneath : (r : ℕ) → is_open w.machine.windows r ≡ false → is_into w.machine.store r (slot_at w.machine s) ≡ true
          → (a : ℕ) (o : Seen) (q k : ℕ) (x : Val) → slice_get w.machine.store a ≡ Some o → o.label ≡ Region q → slice_get o.fields k ≡ Some x
          → label_of w.machine.store x ≡ Some (Region r) → (q ≡ r) ⊎ (is_open w.machine.windows q ≡ true)
      beneath r c into a o q k x there lies at leads = elim (cases_Bool (q == r)) [
        | inl same ↦ inl (eqb-true q r same)
        | inr other ↦ slot-and-field w.machine p.tidy once r c (slot-at-into w.machine s r into).0 (record {
          object = a;
          field = k;
          holder = o;
          value = x;
          holder_there = there;
          value_there = at;
          outside = ap (is_outside w.machine.windows r) lies ∙ ap not other;
          into = label-into w.machine.store r x leads;
        })
      ]

  pub enter-field-same : (k z : ℕ) (stack : List Val) → needs code (i.EnterField k z) stack w.machine ≡ true
      → Match (owners_of taken stack) u w stack → GoesOn true also go
      → SameEnd (free_act code at (i.EnterField k z) also stack u) (act code at (i.EnterField k z) go stack w)
  enter-field-same k z [] n m next = opens-same u w z Stuck Stuck m.1.machine.frames m.1.machine.windows tt
  enter-field-same k z (r ∷ x ∷ more) n m next = off n
  enter-field-same k z (val.Nil ∷ []) n m next = opens-same u w z (Traps trap.Nil) (Traps trap.Nil) m.1.machine.frames m.1.machine.windows refl
  enter-field-same k z (val.Int y ∷ []) n m next = opens-same u w z (Traps trap.Nil) (Traps trap.Nil) m.1.machine.frames m.1.machine.windows refl
  enter-field-same k z (val.Bool b ∷ []) n m next = opens-same u w z (Traps trap.Nil) (Traps trap.Nil) m.1.machine.frames m.1.machine.windows refl
  enter-field-same k z (val.Obj a ∷ []) n m next = opens-same u w z (left (slice_get u.machine.store a)) (right (slice_get w.machine.store a))
      p.frames p.windows
      (subst (λ x. SameEnd (left x) (right (slice_get w.machine.store a))) (sym (p.same a here)) (by (slice_get w.machine.store a) refl n))
    where
      now : Match (val.Obj a ∷ []) u w (val.Obj a ∷ [])
      now = match-more taken u w (val.Obj a ∷ []) m

      p : Part now.0 (val.Obj a ∷ []) u.machine w.machine (val.Obj a ∷ [])
      p = now.1.machine

      here : now.0 a ≡ true
      here = p.on_stack.0

      left : Option Seen → Walked
      left x = elim (ok_or {T = Seen} x trap.Nil) [
        | Ok o ↦ on_object u.machine.store (field_of o k)
            (λ b. also 0 [] (entered u (place.Field a k) (field_of o k) z (region_of b.label)))
        | Err t ↦ Traps t
      ]

      right : Option Seen → Walked
      right x = elim (ok_or {T = Seen} x trap.Nil) [
        | Ok o ↦ on_object w.machine.store (field_of o k)
            (λ b. go 0 [] (entered w (place.Field a k) (field_of o k) z (region_of b.label)))
        | Err t ↦ Traps t
      ]

      of : (l : Label) → is_writable w.machine l ≡ true → is_of w.machine.windows l ≡ true
      of (Region q) h = ap (is_open w.machine.windows) (eqb-true q (top_region w.machine.windows) h)
          ∙ top-open w.machine.windows p.tidy.some_window
      of (Temp q) h = ap (has_window w.machine.windows) (eqb-true q (top_window w.machine.windows) h)
          ∙ top-numbered w.machine.windows p.tidy.some_window
      of Frozen h = off h

      outside : (r : ℕ) (l : Label) → is_of w.machine.windows l ≡ true → is_open w.machine.windows r ≡ false
          → is_outside w.machine.windows r l ≡ true
      outside r (Region q) h c = ap not (ne_eqb q r (λ e. clash (is_open w.machine.windows r) (ap (is_open w.machine.windows) (sym e) ∙ h) c))
      outside r (Temp q) h c = h
      outside r Frozen h c = refl

      by : (x : Option Seen) → slice_get w.machine.store a ≡ x → elim (ok_or {T = Seen} x trap.Nil) [
        | Ok o ↦ owned_once w.machine && is_field w.machine k o && owns_or_nil w.machine (field_of o k) && not
            (is_closed w.machine (slot_at w.machine z))
        | Err t ↦ true
      ] ≡ true → SameEnd (left x) (right x)
      by None e n = refl
      by (Some o) e n = bridge-same also go u w z (place.Field a k) still next free (here, (o, e, of o.label writes)) (field_of o k)
          (field-leads now.0 (val.Obj a ∷ []) u.machine w.machine (val.Obj a ∷ []) p (val.Obj a) here o (ap (λ s. ok_or s trap.Nil) e) k) owns beneath
        where
          front : Truth
          front = owned_once w.machine && is_field w.machine k o

          both : (front && owns_or_nil w.machine (field_of o k)) ≡ true
          both = and-left (front && owns_or_nil w.machine (field_of o k)) (not (is_closed w.machine (slot_at w.machine z))) n

          free : is_closed w.machine (slot_at w.machine z) ≡ false
          free = not-true (is_closed w.machine (slot_at w.machine z))
              (and-right (front && owns_or_nil w.machine (field_of o k)) (not (is_closed w.machine (slot_at w.machine z))) n)

          owns : owns_or_nil w.machine (field_of o k) ≡ true
          owns = and-right front (owns_or_nil w.machine (field_of o k)) both

          once : owned_once w.machine ≡ true
          once = and-left (owned_once w.machine) (is_field w.machine k o) (and-left front (owns_or_nil w.machine (field_of o k)) both)

          writes : is_writable w.machine o.label ≡ true
          writes = and-left (is_writable w.machine o.label) (nat_lt k (length o.fields))
              (and-right (owned_once w.machine) (is_field w.machine k o) (and-left front (owns_or_nil w.machine (field_of o k)) both))

          still : Match [] u w []
          still = (
            now.0,
            record {
              machine = part-stack now.0 [] u.machine w.machine (val.Obj a ∷ [])
                  (part-owners now.0 (val.Obj a ∷ []) u.machine w.machine (val.Obj a ∷ []) p []
                  (λ r c any. elim (or_cases (is_into w.machine.store r (val.Obj a)) false any) [
                    | inl it ↦ writable-open w.machine o.label r p.tidy.some_window writes
                        (same_Some o.label (Region r) (sym (label-there w.machine.store a o e) ∙ into-label w.machine.store r (val.Obj a) it)) c
                    | inr none ↦ off none
                  ])) [] tt;
              input = now.1.input;
              printed = now.1.printed;
            },
          )

          mine : (r : ℕ) → is_open w.machine.windows r ≡ false → is_into w.machine.store r (field_of o k) ≡ true
              → (l : FieldInto w.machine r) × (l.object ≡ a)
          mine r c into = found (slice_get o.fields k) refl into
            where
              found : (s : Option Val) → slice_get o.fields k ≡ s → is_into w.machine.store r (unwrap_or s val.Nil) ≡ true
                  → (l : FieldInto w.machine r) × (l.object ≡ a)
              found None f into = off into
              found (Some v) f into = (
                record {
                  object = a;
                  field = k;
                  holder = o;
                  value = v;
                  holder_there = e;
                  value_there = f;
                  outside = outside r o.label (of o.label writes) c;
                  into = into;
                },
                refl,
              )

          beneath : (r : ℕ) → is_open w.machine.windows r ≡ false → is_into w.machine.store r (field_of o k) ≡ true
              → (b : ℕ) (h : Seen) (q j : ℕ) (x : Val) → slice_get w.machine.store b ≡ Some h → h.label ≡ Region q → slice_get h.fields j ≡ Some x
              → label_of w.machine.store x ≡ Some (Region r) → (q ≡ r) ⊎ (is_open w.machine.windows q ≡ true)
          beneath r c into b h q j x there lies at leads = elim (cases_Bool (q == r)) [
            | inl same ↦ inl (eqb-true q r same)
            | inr other ↦
                (let l = mine r c into in
                let is = two-fields w.machine p.tidy once r c (record {
                  object = b;
                  field = j;
                  holder = h;
                  value = x;
                  holder_there = there;
                  value_there = at;
                  outside = ap (is_outside w.machine.windows r) lies ∙ ap not other;
                  into = label-into w.machine.store r x leads;
                }) l.0 in
                let holder : o ≡ h = same_Some o h (sym e ∙ ap (slice_get w.machine.store) (sym (is ∙ l.1)) ∙ there) in
                inr (sym (ap (is_of w.machine.windows) (ap (λ (s : Seen). s.label) holder ∙ lies)) ∙ of o.label writes))
          ]
