-- What a frame that ends and a dropped value give up, and the instructions that free beside those over the growing store.
use Rattle.std.proofs.Common.{◌≡◌, ℕ, zero, suc, ◌⊎◌, inl, inr, true, false, Bool as Truth, List, [], ◌∷◌, ◌++◌}
use Rattle.std.proofs.Common.{length, Some, None, drop, refl, sym, ap, subst, ◌∙◌, arith, slice_get}
use Rattle.std.proofs.lemmas.Option.{same_Some}
use Rattle.std.proofs.lemmas.Bool.{or_cases}
use Rattle.std.proofs.lemmas.Map.Keys.{any_passes_from_place}
use Rattle.std.specs.Prelude.{◌||◌, ◌&&◌, nat_lt, if◌then◌else◌}
use Rattle.std.specs.List.{list_any}
use Rattle.rg_base.specs.declared.value.Val.{Val}
use Rattle.rg_sound.proofs.Stores.Member.{In}
use Rattle.rg_code.specs.declared.op.Op.TheVariants as i
use Rattle.rg_code.specs.Code.{Code}
use Rattle.rg_stack.specs.Machine.{Frame, Machine, top_slots, slot_at, put_slot, end_slots, slots_below}
use Rattle.rg_stack.specs.Effects.{Returns, Stuck, Go, act, stored, returned, begins_by, beneath_by_labels}
use Rattle.rg_stack.specs.Tops.{Work}
use Rattle.rg_stack.specs.Needs.{loose, owned_once, owns_or_nil, places_into, may_keep, needs}
use Rattle.rg_stack.specs.Places.{size_of}
use Rattle.rg_stack.specs.Labels.{is_open, is_into}
use Rattle.rg_stack.proofs.Basics.{none-some, and-left, and-right}
use Rattle.rg_held.specs.Frees.{closed_among, bury, free_act, freed, given_up}
use Rattle.rg_held.specs.Part.{leads_to, SlotInto, Part}
use Rattle.rg_held.specs.Ends.{Match, SameEnd}
use Rattle.rg_held.specs.Laws.{owners_of, GoesOn}
use Rattle.rg_held.proofs.Lists.{off, any-at, any-left, any-right, any-split}
use Rattle.rg_held.proofs.Places.{ClosedRef}
use Rattle.rg_held.proofs.Parts.Part.{field-frames, part-stack, part-frames, lead-any}
use Rattle.rg_held.proofs.Callers.Forget.{part-remembers}
use Rattle.rg_held.proofs.Parts.Burial.{left_held, part-bury}
use Rattle.rg_held.proofs.Acts.Stack.{match-more}
use Rattle.rg_held.proofs.Acts.Release.{Loose, loose-one, top-into, two-slots, slot-and-field, two-fields, no-place-slot, no-place-field}
use Rattle.rg_held.proofs.Acts.Release.{plain-burial}
use Rattle.rg_held.proofs.Acts.Release.{among-in, among-back, part-own, part-end-freed}

-- a frame ends
module _ (held : ℕ → Truth) (f m : Machine) (stack : List Val) (x : Frame) (rest : List Frame) (e : m.frames ≡ x ∷ rest)
    (p : Part held stack f m stack) (o : owned_once m ≡ true) (l : Loose m stack) where
  abbrev regions : List ℕ
  regions = closed_among f (top_slots f.frames)

  top-is : top_slots f.frames ≡ x.slots
  top-is = ap top_slots (p.frames ∙ e)

  slots-are : top_slots m.frames ≡ x.slots
  slots-are = ap top_slots e

  lead : (j : ℕ) (v : Val) → slice_get x.slots j ≡ Some v → leads_to held v ≡ true
  lead j v at = p.slots 0 x j v (ap (λ l. slice_get l 0) e) at

  up : (q : ℕ) → SlotInto (record m { frames = rest }) q → (a : SlotInto m q) × ((n : ℕ) × (a.frame ≡ suc n))
  up q a = (
    record {
      frame = suc a.frame;
      slot = a.slot;
      holder = a.holder;
      value = a.value;
      holder_there = ap (λ l. slice_get l (suc a.frame)) e ∙ a.holder_there;
      value_there = a.value_there;
      into = a.into;
    },
    (a.frame, refl),
  )

  -- a slot of the frame that leads into a closed region
  record Top (q : ℕ) : Type 0 where
    place : SlotInto m q
    top : place.frame ≡ 0
    closed : is_open m.windows q ≡ false

  old : (q : ℕ) → In q regions → Top q
  old q j =
      let h = among-back held stack f m stack p x.slots q lead (subst (λ l. In q (closed_among f l)) top-is j) in
      let a = top-into m h.0 q h.1.0 (ap (λ l. slice_get l h.0) slots-are ∙ h.1.1) h.1.2.into in
      record { place = a.0; top = a.1; closed = h.1.2.closed }

  gone : Part held (x.slots ++ stack) (record f { frames = rest }) (record m { frames = rest }) stack
  gone = part-frames held stack f m stack p rest rest (x.slots ++ stack) stack refl
      (λ n h s v there at. p.slots (suc n) h s v (ap (λ l. slice_get l (suc n)) e ∙ there) at) p.on_stack
      (λ r c a. stay r a a.frame (ap (λ l. slice_get l a.frame) (sym e) ∙ a.holder_there))
      (λ r c any. inr (any-right (is_into m.store r) x.slots stack any))
    where
      stay : (r : ℕ) (a : SlotInto m r) (n : ℕ) → slice_get (x ∷ rest) n ≡ Some a.holder
          → SlotInto (record m { frames = rest }) r ⊎ (list_any (is_into m.store r) (x.slots ++ stack) ≡ true)
      stay r a zero there = inr (any-left (is_into m.store r) x.slots stack (any_passes_from_place (is_into m.store r) x.slots a.slot a.value
          (ap (λ (h : Frame). slice_get h.slots a.slot) (same_Some x a.holder there) ∙ a.value_there) a.into))
      stay r a (suc n) there = inl (record {
        frame = n;
        slot = a.slot;
        holder = a.holder;
        value = a.value;
        holder_there = there;
        value_there = a.value_there;
        into = a.into;
      })

  pub part-return : Part (left_held held m.store (beneath_by_labels f.store (length f.managers) regions) None) stack
      (record (record f { store = bury (beneath_by_labels f.store (length f.managers) regions) None f.store }) { frames = rest })
      (record m { frames = rest }) stack
  part-return = part-bury held (x.slots ++ stack) (record f { frames = rest }) (record m { frames = rest }) stack gone regions None stack
      (plain-burial held (x.slots ++ stack) (record m { frames = rest }) stack regions stack (λ q j. (old q j).closed)
      (λ q c. record {
        slot_field = λ a b. slot-and-field m p.tidy o q c (up q a).0 (field-frames (record m { frames = rest }) m.frames q b);
        field_field = λ a b. two-fields m p.tidy o q c (field-frames (record m { frames = rest }) m.frames q a)
            (field-frames (record m { frames = rest }) m.frames q b);
      })
      (λ q j a. (let h = old q j in let was = up q a in let same = (two-slots m p.tidy o q h.closed was.0 h.place).0 in
      let n = was.1.1 in let t = h.top in omega (arith, same, n, t)))
      (λ q j b. slot-and-field m p.tidy o q (old q j).closed (old q j).place (field-frames (record m { frames = rest }) m.frames q b))
      (λ q c any. (
        λ j. no-place-slot m q (l q c any) (old q j).place,
        λ b. no-place-field m q (l q c any) (field-frames (record m { frames = rest }) m.frames q b),
      ))
      (λ q c any. elim (any-split (is_into m.store q) x.slots stack any) [
        | inl here ↦
            (let h = any-at (is_into m.store q) x.slots here in
            inl (among-in held stack f m stack p (top_slots f.frames) h.0 h.1.0 q (ap (λ l. slice_get l h.0) top-is ∙ h.1.1)
            (lead h.0 h.1.0 h.1.1) h.1.2 c))
        | inr there ↦ inr (inr there)
      ]))

-- `drop`: what is on the stack is given up
pub part-drop : (held : ℕ → Truth) (f m : Machine) (v : Val) → Part held (v ∷ []) f m (v ∷ []) → loose m v ≡ true → owned_once m ≡ true
    → let all : List ℕ = beneath_by_labels f.store (length f.managers) (closed_among f (v ∷ [])) in
    Part (left_held held m.store all None) [] (record f { store = bury all None f.store }) m []
part-drop held f m v p l o =
    part-bury held (v ∷ []) f m [] (part-stack held (v ∷ []) f m (v ∷ []) p [] tt) (closed_among f (v ∷ [])) None []
    (plain-burial held (v ∷ []) m [] (closed_among f (v ∷ [])) [] (λ q j. (old q j).closed)
    (λ q c. record {
      slot_field = λ a b. slot-and-field m p.tidy o q c a b;
      field_field = λ a b. two-fields m p.tidy o q c a b;
    })
    (λ q j a. no-place-slot m q (free q (old q j)) a) (λ q j b. no-place-field m q (free q (old q j)) b) (λ q c e. off e)
    (λ q c any. elim (or_cases (is_into m.store q v) false any) [
      | inl into ↦ inl (among-in held (v ∷ []) f m (v ∷ []) p (v ∷ []) 0 v q refl p.on_stack.0 into c)
      | inr none ↦ off none
    ]))
  where
    lead : (j : ℕ) (x : Val) → slice_get (v ∷ []) j ≡ Some x → leads_to held x ≡ true
    lead j x e = lead-any held (v ∷ []) j x p.on_stack e

    old : (q : ℕ) → In q (closed_among f (v ∷ [])) → ClosedRef m v q
    old q j = at (among-back held (v ∷ []) f m (v ∷ []) p (v ∷ []) q lead j)
      where
        one : (j : ℕ) (x : Val) → slice_get (v ∷ []) j ≡ Some x → ClosedRef m x q → ClosedRef m v q
        one zero x e c = subst (λ x. ClosedRef m x q) (sym (same_Some v x e)) c
        one (suc j) x e c = none-some x e

        at : ((j : ℕ) × ((x : Val) × (slice_get (v ∷ []) j ≡ Some x) × ClosedRef m x q)) → ClosedRef m v q
        at h = one h.0 h.1.0 h.1.1 h.1.2

    free : (q : ℕ) → ClosedRef m v q → places_into m q ≡ 0
    free q c = loose-one m v l q c.closed (ap (λ b. b || false) c.into)

returned-same : (u w : Work) (stack : List Val) → u.machine.frames ≡ w.machine.frames → u.machine.windows ≡ w.machine.windows
    → ((x g : Frame) (gs : List Frame) → w.machine.frames ≡ x ∷ g ∷ gs
    → Match stack (record u { machine = record u.machine { frames = g ∷ gs } }) (record w { machine = record w.machine { frames = g ∷ gs } }) stack)
    → SameEnd (returned u u.machine.frames stack) (returned w w.machine.frames stack)
returned-same u w stack frames windows match =
    subst (λ fs. SameEnd (returned u fs stack) (returned w w.machine.frames stack)) (sym frames) (by w.machine.frames refl)
  where
    last : (x g : Frame) (gs : List Frame) → w.machine.frames ≡ x ∷ g ∷ gs → (b : Truth)
        → SameEnd (if b then Returns x.back stack (record u { machine = record u.machine { frames = g ∷ gs } }) else Stuck)
        (if b then Returns x.back stack (record w { machine = record w.machine { frames = g ∷ gs } }) else Stuck)
    last x g gs e true = (refl, refl, match x g gs e)
    last x g gs e false = tt

    by : (fs : List Frame) → w.machine.frames ≡ fs → SameEnd (returned u fs stack) (returned w fs stack)
    by [] e = tt
    by (x ∷ []) e = tt
    by (x ∷ g ∷ gs) e = subst (λ ws. SameEnd
        (if begins_by ws (slots_below (g ∷ gs)) then Returns x.back stack (record u { machine = record u.machine { frames = g ∷ gs } }) else Stuck)
        (returned w (x ∷ g ∷ gs) stack)) (sym windows) (last x g gs e (begins_by w.machine.windows (slots_below (g ∷ gs))))

module _ (code : Code) (at : ℕ) (also go : Go) (u w : Work) (taken : Truth) where
  -- what is open was open in front of the instruction
  was-open : (held : ℕ → Truth) (owners stack : List Val) → Part held owners u.machine w.machine stack → (r : ℕ)
      → is_open w.machine.windows r ≡ true → is_open u.machine.windows r ≡ true
  was-open held owners stack p r e = ap (λ ws. is_open ws r) p.windows ∙ e

  pub own-same : (s : ℕ) (stack : List Val) → needs code (i.Own s) stack w.machine ≡ true → Match (owners_of taken stack) u w stack
      → GoesOn true also go → SameEnd (free_act code at (i.Own s) also stack u) (act code at (i.Own s) go stack w)
  own-same s [] n m next = tt
  own-same s (x ∷ y ∷ rest) n m next = off n
  own-same s (v ∷ []) n m next =
      let now = match-more taken u w (v ∷ []) m in
      let room = nat_lt s (size_of w.machine) in
      let first = room && owned_once w.machine in
      let owns = first && owns_or_nil w.machine (slot_at w.machine s) in
      let goes = and-left (owns && loose w.machine v) (may_keep w.machine s v) n in
      let both = and-left first (owns_or_nil w.machine (slot_at w.machine s)) (and-left owns (loose w.machine v) goes) in
      let less = and-left room (owned_once w.machine) both in
      let once = and-right room (owned_once w.machine) both in
      let free = and-right owns (loose w.machine v) goes in
      next [] (stored (freed (given_up (i.Own s) (v ∷ []) u.machine) u) s v) (stored w s v) (
        left_held now.0 w.machine.store
            (beneath_by_labels u.machine.store (length u.machine.managers) (closed_among u.machine (slot_at u.machine s ∷ []))) None,
        record {
          machine = part-remembers _ [] _ (put_slot w.machine s v) []
              (part-own now.0 u.machine w.machine v s now.1.machine less once free) u.machine.windows
              (was-open now.0 (v ∷ []) (v ∷ []) now.1.machine);
          input = now.1.input;
          printed = now.1.printed;
        },
      )

  pub end-same : (s : ℕ) (stack : List Val) → needs code (i.End s) stack w.machine ≡ true → Match (owners_of taken stack) u w stack
      → GoesOn true also go → SameEnd (free_act code at (i.End s) also stack u) (act code at (i.End s) go stack w)
  end-same s (x ∷ rest) n m next = off n
  end-same s [] n m next =
      let now = match-more taken u w [] m in
      let all = beneath_by_labels u.machine.store (length u.machine.managers) (closed_among u.machine (drop s (top_slots u.machine.frames))) in
      next [] (record (freed (given_up (i.End s) [] u.machine) u) { machine = end_slots (freed (given_up (i.End s) [] u.machine) u).machine s })
      (record w { machine = end_slots w.machine s }) (
        left_held now.0 w.machine.store all None,
        record {
          machine = part-remembers _ [] _ (end_slots w.machine s) [] (part-end-freed now.0 u.machine w.machine s now.1.machine n) u.machine.windows
              (was-open now.0 [] [] now.1.machine);
          input = now.1.input;
          printed = now.1.printed;
        },
      )

  pub drop-same : (stack : List Val) → needs code i.Drop stack w.machine ≡ true → Match (owners_of taken stack) u w stack
      → GoesOn true also go → SameEnd (free_act code at i.Drop also stack u) (act code at i.Drop go stack w)
  drop-same [] n m next = tt
  drop-same (x ∷ y ∷ rest) n m next = off n
  drop-same (v ∷ []) n m next =
      let now = match-more taken u w (v ∷ []) m in
      let once = and-left (owned_once w.machine) (loose w.machine v) n in
      let free = and-right (owned_once w.machine) (loose w.machine v) n in
      next [] (freed (given_up i.Drop (v ∷ []) u.machine) u) w (
        left_held now.0 w.machine.store (beneath_by_labels u.machine.store (length u.machine.managers) (closed_among u.machine (v ∷ []))) None,
        record {
          machine = part-remembers _ [] _ w.machine [] (part-drop now.0 u.machine w.machine v now.1.machine free once) u.machine.windows
              (was-open now.0 (v ∷ []) (v ∷ []) now.1.machine);
          input = now.1.input;
          printed = now.1.printed;
        },
      )

  -- where nobody takes a result, both instructions do the same
  pub pop-same : (stack : List Val) → needs code i.Pop stack w.machine ≡ true → Match (owners_of taken stack) u w stack
      → GoesOn true also go → SameEnd (free_act code at i.Pop also stack u) (act code at i.Pop go stack w)
  pop-same [] n m next = tt
  pop-same (x ∷ y ∷ rest) n m next = off n
  pop-same (v ∷ []) n m next = drop-same (v ∷ []) n m next

  return-match : (stack : List Val) → owned_once w.machine ≡ true → Loose w.machine stack → Match stack u w stack
      → (x g : Frame) (gs : List Frame) → w.machine.frames ≡ x ∷ g ∷ gs
      → Match stack (record (freed (given_up i.RetVoid [] u.machine) u) {
        machine = record (freed (given_up i.RetVoid [] u.machine) u).machine { frames = g ∷ gs };
      }) (record w { machine = record w.machine { frames = g ∷ gs } }) stack
  return-match stack once free now x g gs e = (
    left_held now.0 w.machine.store
        (beneath_by_labels u.machine.store (length u.machine.managers) (closed_among u.machine (top_slots u.machine.frames))) None,
    record {
      machine = part-remembers _ stack _ (record w.machine { frames = g ∷ gs }) stack
          (part-return now.0 u.machine w.machine stack x (g ∷ gs) e now.1.machine once free) u.machine.windows
          (was-open now.0 stack stack now.1.machine);
      input = now.1.input;
      printed = now.1.printed;
    },
  )

  pub ret-same : (stack : List Val) → needs code i.Ret stack w.machine ≡ true → Match (owners_of taken stack) u w stack
      → SameEnd (free_act code at i.Ret also stack u) (act code at i.Ret go stack w)
  ret-same [] n m = tt
  ret-same (x ∷ y ∷ rest) n m = off n
  ret-same (v ∷ []) n m =
      let now = match-more taken u w (v ∷ []) m in
      let once = and-left (owned_once w.machine) (loose w.machine v) n in
      let free = loose-one w.machine v (and-right (owned_once w.machine) (loose w.machine v) n) in
      returned-same (freed (given_up i.Ret (v ∷ []) u.machine) u) w (v ∷ []) now.1.machine.frames now.1.machine.windows
      (return-match (v ∷ []) once free now)

  pub ret-void-same : (stack : List Val) → needs code i.RetVoid stack w.machine ≡ true → Match (owners_of taken stack) u w stack
      → SameEnd (free_act code at i.RetVoid also stack u) (act code at i.RetVoid go stack w)
  ret-void-same (x ∷ rest) n m = off n
  ret-void-same [] n m =
      let now = match-more taken u w [] m in
      returned-same (freed (given_up i.RetVoid [] u.machine) u) w [] now.1.machine.frames now.1.machine.windows
      (return-match [] n (λ q c e. off e) now)
