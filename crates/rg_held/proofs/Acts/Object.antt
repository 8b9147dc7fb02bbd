-- Instructions that make objects or write fields, beside those over the growing store.
use Rattle.std.proofs.Common.{◌≡◌, ℕ, zero, suc, ◌==◌, ◌<◌, inl, inr, true, false, not, Bool as Truth, List, [], ◌∷◌, ◌++◌, replicate}
use Rattle.std.proofs.Common.{length, map, Option, Some, None, Ok, Err, option_and_then, is_some, unwrap_or, refl, sym, ap, subst, ◌∙◌, arith}
use Rattle.std.proofs.Common.{Result, slice_get, slice_set}
use Rattle.std.proofs.lemmas.Option.{same_Some}
use Rattle.std.proofs.lemmas.Bool.{not-true, eq-eqb, eqb-true, or_cases, or_right, ne_eqb}
use Rattle.std.proofs.lemmas.List.{length_push}
use Rattle.std.specs.Prelude.{◌||◌, ◌&&◌, nat_lt, ok_or, if◌then◌else◌}
use Rattle.std.specs.List.{list_any}
use Rattle.rg_base.specs.declared.object.Label.{Label}
use Rattle.rg_base.specs.declared.object.Label.TheVariants.{Region, Temp, Frozen}
use Rattle.rg_base.specs.declared.object.Seen.{Seen}
use Rattle.rg_base.specs.declared.outcome.Trap.{Trap}
use Rattle.rg_base.specs.declared.outcome.Trap.TheVariants as trap
use Rattle.rg_base.specs.declared.words.Manager.{Manager}
use Rattle.rg_base.specs.declared.value.Val.{Val}
use Rattle.rg_base.specs.declared.value.Val.TheVariants as val
use Rattle.rg_base.specs.declared.value.Word.{Word}
use Rattle.rg_base.specs.declared.value.Word.TheVariants as word
use Rattle.rg_base.proofs.Callers.Labels.{region-temp}
use Rattle.rg_tree.proofs.TreesFrom.{slice_get-push}
use Rattle.rg_rules.specs.Values.{is_nil_value}
use Rattle.rg_rules.specs.Evaluation.{object_at}
use Rattle.rg_sound.proofs.Owners.Owner.{get-set}
use Rattle.rg_code.specs.declared.op.Op.TheVariants as i
use Rattle.rg_code.specs.Code.{Code}
use Rattle.rg_stack.specs.Machine.{Window, Machine, value_of_word, slot_at, put_slot}
use Rattle.rg_stack.specs.Effects.{Go, Traps, act, made, with_store, with_value_in, put_in, on_object, stored}
use Rattle.rg_stack.specs.Tops.{Work, top_region, top_window}
use Rattle.rg_stack.specs.Effects.{made_array, opening_element, put_element, place_named}
use Rattle.rg_stack.specs.Needs.{is_closed, closed_of, leads_nowhere, opens_plain}
use Rattle.rg_stack.specs.Places.{is_field}
use Rattle.rg_stack.specs.Labels.{is_open, has_window, label_of, is_into}
use Rattle.rg_stack.specs.Needs.{may_stand, owns_or_nil, owned_once, needs}
use Rattle.rg_stack.specs.Places.{is_writable, field_of, size_of}
use Rattle.rg_stack.specs.Labels.{is_outside}
use Rattle.rg_stack.proofs.Basics.{none-some, and-left, and-right}
use Rattle.rg_held.specs.Frees.{free_act}
use Rattle.rg_held.specs.Part.{leads_to, Part, SomeWindow, may_lead, is_shut_or_above}
use Rattle.rg_held.specs.Ends.{Match, SameEnd}
use Rattle.rg_held.specs.Laws.{owners_of, GoesOn}
use Rattle.rg_held.proofs.Lists.{off, set-new}
use Rattle.rg_held.proofs.Places.{clash, not-closed, top-open}
use Rattle.rg_held.proofs.Places.{label-there, into-label}
use Rattle.rg_held.proofs.Parts.Part.{closed-above, part-owners}
use Rattle.rg_held.proofs.Acts.Stack.{match-more, slot-leads, slot-same, field-leads, match-popped, match-owners, match-stack}
use Rattle.rg_held.proofs.Parts.Slot.{part-put, put-there}
use Rattle.rg_held.proofs.Acts.Make.{Plain, NewFits, with_new, part-region, part-new}
use Rattle.rg_held.proofs.Acts.Write.{part-write}
use Rattle.rg_held.proofs.Parts.Burial.{same-region}
use Rattle.rg_rules.specs.RightSides.{array_size}

-- a class opens its fields with no reference
opened-plain : (ws : List Word) (k : ℕ) (v : Val) → leads_nowhere ws ≡ true → slice_get (map value_of_word ws) k ≡ Some v → Plain v
opened-plain [] k v h e = none-some v e
opened-plain (word.Nil ∷ ws) zero v h e = ap (leads_to (λ a. false)) (sym (same_Some val.Nil v e))
opened-plain (word.Nil ∷ ws) (suc k) v h e = opened-plain ws k v h e
opened-plain (word.Int z ∷ ws) zero v h e = ap (leads_to (λ a. false)) (sym (same_Some (val.Int z) v e))
opened-plain (word.Int z ∷ ws) (suc k) v h e = opened-plain ws k v h e
opened-plain (word.Bool b ∷ ws) zero v h e = ap (leads_to (λ a. false)) (sym (same_Some (val.Bool b) v e))
opened-plain (word.Bool b ∷ ws) (suc k) v h e = opened-plain ws k v h e
opened-plain (word.Slot a ∷ ws) k v h e = off h

-- the topmost window is open

pub top-numbered : (ws : List Window) → SomeWindow ws → has_window ws (top_window ws) ≡ true
top-numbered [] h = absurd h
top-numbered (w ∷ ws) h = ap (λ b. b || has_window ws w.number) (eq-eqb w.number w.number refl)

temp-is : (q r : ℕ) → Temp q ≡ Temp r → q ≡ r
temp-is q r e = ap (λ (l : Label). elim l [ Region k ↦ q | Temp q ↦ q | Frozen ↦ q ]) e

-- an object that may be written is in no closed region
pub writable-open : {B : Type 0} (m : Machine) (l : Label) (r : ℕ) → SomeWindow m.windows → is_writable m l ≡ true → l ≡ Region r
    → is_open m.windows r ≡ false → B
writable-open m l r some h lies c =
    let same = eqb-true r (top_region m.windows) (sym (ap (is_writable m) lies) ∙ h) in
    clash (is_open m.windows r) (ap (is_open m.windows) same ∙ top-open m.windows some) c

-- an object or an array that is made comes onto the stack
module _ (also go : Go) (stack : List Val) (object : Label → Seen) where
  pub object-comes : (u w : Work) (l k : Label) → l ≡ k → (m : Match stack u w stack) → NewFits u.machine w.machine (object k) → GoesOn true also go
      → SameEnd (also 0 (val.Obj (length u.machine.store) ∷ stack) (with_store u (u.machine.store ++ object l ∷ [])))
      (go 0 (val.Obj (length w.machine.store) ∷ stack) (with_store w (w.machine.store ++ object k ∷ [])))
  object-comes u w l k e m fits next =
      let last = go 0 (val.Obj (length w.machine.store) ∷ stack) (with_store w (w.machine.store ++ object k ∷ [])) in
      subst (λ l. SameEnd (also 0 (val.Obj (length u.machine.store) ∷ stack) (with_store u (u.machine.store ++ object l ∷ []))) last) (sym e)
      (subst (λ n. SameEnd (also 0 (val.Obj n ∷ stack) (with_store u (u.machine.store ++ object k ∷ []))) last)
      (sym m.1.machine.objects_made)
      (next (val.Obj (length w.machine.store) ∷ stack) (with_store u (u.machine.store ++ object k ∷ []))
      (with_store w (w.machine.store ++ object k ∷ [])) (
        with_new m.0 (length w.machine.store),
        record {
          machine = part-new m.0 u.machine w.machine stack (object k) m.1.machine fits;
          input = m.1.input;
          printed = m.1.printed;
        },
      )))

module _ (code : Code) (also go : Go) (c : ℕ) (stack : List Val) where
  abbrev object : Label → Seen
  object l = record { class = c; fields = map value_of_word (unwrap_or (slice_get code.openings c) []); label = l }

  pub made-same : (u w : Work) (l k : Label) → l ≡ k → (m : Match stack u w stack) → NewFits u.machine w.machine (object k) → GoesOn true also go
      → SameEnd (made code c l also stack u) (made code c k go stack w)
  made-same u w l k e m fits next = object-comes also go stack object u w l k e m fits next

  -- an array of as many elements as a value says
  abbrev array : ℕ → Label → Seen
  array n l = record { class = c; fields = replicate n (opening_element (unwrap_or (slice_get code.openings c) [])); label = l }

  pub array-same : (v : Val) (u w : Work) (l k : Label) → l ≡ k → (m : Match stack u w stack)
      → ((n : ℕ) → NewFits u.machine w.machine (array n k)) → GoesOn true also go
      → SameEnd (made_array code c v l also stack u) (made_array code c v k go stack w)
  array-same v u w l k e m fits next = by (array_size v)
    where
      by : (r : Result ℕ Trap) → SameEnd (elim r [
        | Ok n ↦ also 0 (val.Obj (length u.machine.store) ∷ stack) (with_store u (u.machine.store ++ array n l ∷ []))
        | Err t ↦ Traps t
      ]) (elim r [
        | Ok n ↦ go 0 (val.Obj (length w.machine.store) ∷ stack) (with_store w (w.machine.store ++ array n k ∷ []))
        | Err t ↦ Traps t
      ])
      by (Err t) = refl
      by (Ok n) = object-comes also go stack (array n) u w l k e m (fits n) next

-- an element starts with no reference
element-plain : (ws : List Word) → leads_nowhere ws ≡ true → Plain (opening_element ws)
element-plain [] h = refl
element-plain (word.Nil ∷ ws) h = refl
element-plain (word.Int z ∷ ws) h = refl
element-plain (word.Bool b ∷ ws) h = refl
element-plain (word.Slot a ∷ ws) h = off h

all-plain : (n k : ℕ) (x v : Val) → Plain x → slice_get (replicate n x) k ≡ Some v → Plain v
all-plain zero k x v h e = none-some v e
all-plain (suc n) zero x v h e = subst Plain (same_Some x v e) h
all-plain (suc n) (suc k) x v h e = all-plain n k x v h e

module _ (code : Code) (at : ℕ) (also go : Go) (u w : Work) (taken : Truth) where
  pub new-same : (c : ℕ) (stack : List Val) → needs code (i.New c) stack w.machine ≡ true → Match (owners_of taken stack) u w stack
      → GoesOn true also go → SameEnd (free_act code at (i.New c) also stack u) (act code at (i.New c) go stack w)
  new-same c stack n m next =
      let now = match-more taken u w stack m in
      let top = top-open w.machine.windows now.1.machine.tidy.some_window in
      made-same code also go c stack u w (Region (top_region u.machine.windows)) (Region (top_region w.machine.windows))
      (ap (λ ws. Region (top_region ws)) now.1.machine.windows) now (record {
        plain = λ k v e. opened-plain (unwrap_or (slice_get code.openings c) []) k v n e;
        regions = λ r e. (let same = same-region (top_region w.machine.windows) r e in
            now.1.machine.tidy.regions r (ap (is_open w.machine.windows) (sym same) ∙ top));
        managers = λ r e. (let same = same-region (top_region w.machine.windows) r e in
            now.1.machine.open_managers r (ap (is_open w.machine.windows) (sym same) ∙ top));
        temps = λ k e. region-temp (top_region w.machine.windows) k e;
      }) next

  pub new-temp-same : (c : ℕ) (stack : List Val) → needs code (i.NewTmp c) stack w.machine ≡ true → Match (owners_of taken stack) u w stack
      → GoesOn true also go → SameEnd (free_act code at (i.NewTmp c) also stack u) (act code at (i.NewTmp c) go stack w)
  new-temp-same c stack n m next =
      let now = match-more taken u w stack m in
      let top = top-numbered w.machine.windows now.1.machine.tidy.some_window in
      made-same code also go c stack u w (Temp (top_window u.machine.windows)) (Temp (top_window w.machine.windows))
      (ap (λ ws. Temp (top_window ws)) now.1.machine.windows) now (record {
        plain = λ k v e. opened-plain (unwrap_or (slice_get code.openings c) []) k v n e;
        regions = λ r e. region-temp r (top_window w.machine.windows) (sym e);
        managers = λ r e. region-temp r (top_window w.machine.windows) (sym e);
        temps = λ k e. ap (has_window w.machine.windows) (sym (temp-is (top_window w.machine.windows) k e)) ∙ top;
      }) next

  pub new-region-same : (c : ℕ) (g : Manager) (stack : List Val) → needs code (i.NewIso c g) stack w.machine ≡ true
      → Match (owners_of taken stack) u w stack → GoesOn true also go
      → SameEnd (free_act code at (i.NewIso c g) also stack u) (act code at (i.NewIso c g) go stack w)
  new-region-same c g stack n m next =
      let now = match-more taken u w stack m in
      made-same code also go c stack (record u { machine = record u.machine { managers = u.machine.managers ++ g ∷ [] } })
      (record w { machine = record w.machine { managers = w.machine.managers ++ g ∷ [] } }) (Region (length u.machine.managers))
      (Region (length w.machine.managers)) (ap Region now.1.machine.managers_made) (
        now.0,
        record {
          machine = part-region now.0 stack u.machine w.machine stack g now.1.machine;
          input = now.1.input;
          printed = now.1.printed;
        },
      ) (record {
        plain = λ k v e. opened-plain (unwrap_or (slice_get code.openings c) []) k v n e;
        regions = λ r e. (let same = same-region (length w.machine.managers) r e in let b = length_push w.machine.managers g in
            omega (arith, same, b));
        managers = λ r e. (let same = same-region (length w.machine.managers) r e in
            ap (slice_get (u.machine.managers ++ g ∷ [])) (sym same ∙ sym now.1.machine.managers_made) ∙ slice_get-push u.machine.managers g
            ∙ sym (ap (slice_get (w.machine.managers ++ g ∷ [])) (sym same) ∙ slice_get-push w.machine.managers g));
        temps = λ k e. region-temp (length w.machine.managers) k e;
      }) next

  -- arrays, behind their sizes

  pub new-array-same : (c : ℕ) (stack : List Val) → needs code (i.NewArray c) stack w.machine ≡ true → Match (owners_of taken stack) u w stack
      → GoesOn true also go → SameEnd (free_act code at (i.NewArray c) also stack u) (act code at (i.NewArray c) go stack w)
  new-array-same c [] n m next = tt
  new-array-same c (v ∷ stack) n m next =
      let plain = and-left (opens_plain code c) (not (is_closed w.machine v)) n in
      let shut = not-true (is_closed w.machine v) (and-right (opens_plain code c) (not (is_closed w.machine v)) n) in
      let now = match-popped u w v stack shut (match-more taken u w (v ∷ stack) m) in
      let top = top-open w.machine.windows now.1.machine.tidy.some_window in
      array-same code also go c stack v u w (Region (top_region u.machine.windows)) (Region (top_region w.machine.windows))
      (ap (λ ws. Region (top_region ws)) now.1.machine.windows) now (λ many. record {
        plain = λ k x e. all-plain many k _ x (element-plain (unwrap_or (slice_get code.openings c) []) plain) e;
        regions = λ r e. (let same = same-region (top_region w.machine.windows) r e in
            now.1.machine.tidy.regions r (ap (is_open w.machine.windows) (sym same) ∙ top));
        managers = λ r e. (let same = same-region (top_region w.machine.windows) r e in
            now.1.machine.open_managers r (ap (is_open w.machine.windows) (sym same) ∙ top));
        temps = λ k e. region-temp (top_region w.machine.windows) k e;
      }) next

  pub new-temp-array-same : (c : ℕ) (stack : List Val) → needs code (i.NewTmpArray c) stack w.machine ≡ true
      → Match (owners_of taken stack) u w stack → GoesOn true also go
      → SameEnd (free_act code at (i.NewTmpArray c) also stack u) (act code at (i.NewTmpArray c) go stack w)
  new-temp-array-same c [] n m next = tt
  new-temp-array-same c (v ∷ stack) n m next =
      let plain = and-left (opens_plain code c) (not (is_closed w.machine v)) n in
      let shut = not-true (is_closed w.machine v) (and-right (opens_plain code c) (not (is_closed w.machine v)) n) in
      let now = match-popped u w v stack shut (match-more taken u w (v ∷ stack) m) in
      let top = top-numbered w.machine.windows now.1.machine.tidy.some_window in
      array-same code also go c stack v u w (Temp (top_window u.machine.windows)) (Temp (top_window w.machine.windows))
      (ap (λ ws. Temp (top_window ws)) now.1.machine.windows) now (λ many. record {
        plain = λ k x e. all-plain many k _ x (element-plain (unwrap_or (slice_get code.openings c) []) plain) e;
        regions = λ r e. region-temp r (top_window w.machine.windows) (sym e);
        managers = λ r e. region-temp r (top_window w.machine.windows) (sym e);
        temps = λ k e. ap (has_window w.machine.windows) (sym (temp-is (top_window w.machine.windows) k e)) ∙ top;
      }) next

  pub new-region-array-same : (c : ℕ) (g : Manager) (stack : List Val) → needs code (i.NewIsoArray c g) stack w.machine ≡ true
      → Match (owners_of taken stack) u w stack → GoesOn true also go
      → SameEnd (free_act code at (i.NewIsoArray c g) also stack u) (act code at (i.NewIsoArray c g) go stack w)
  new-region-array-same c g [] n m next = tt
  new-region-array-same c g (v ∷ stack) n m next =
      let plain = and-left (opens_plain code c) (not (is_closed w.machine v)) n in
      let shut = not-true (is_closed w.machine v) (and-right (opens_plain code c) (not (is_closed w.machine v)) n) in
      let now = match-popped u w v stack shut (match-more taken u w (v ∷ stack) m) in
      array-same code also go c stack v (record u { machine = record u.machine { managers = u.machine.managers ++ g ∷ [] } })
      (record w { machine = record w.machine { managers = w.machine.managers ++ g ∷ [] } }) (Region (length u.machine.managers))
      (Region (length w.machine.managers)) (ap Region now.1.machine.managers_made) (
        now.0,
        record {
          machine = part-region now.0 stack u.machine w.machine stack g now.1.machine;
          input = now.1.input;
          printed = now.1.printed;
        },
      ) (λ many. record {
        plain = λ k x e. all-plain many k _ x (element-plain (unwrap_or (slice_get code.openings c) []) plain) e;
        regions = λ r e. (let same = same-region (length w.machine.managers) r e in let b = length_push w.machine.managers g in
            omega (arith, same, b));
        managers = λ r e. (let same = same-region (length w.machine.managers) r e in
            ap (slice_get (u.machine.managers ++ g ∷ [])) (sym same ∙ sym now.1.machine.managers_made) ∙ slice_get-push u.machine.managers g
            ∙ sym (ap (slice_get (w.machine.managers ++ g ∷ [])) (sym same) ∙ slice_get-push w.machine.managers g));
        temps = λ k e. region-temp (length w.machine.managers) k e;
      }) next

  -- what may stand in a field leads where it may
  stand-leads : (q : ℕ) (v : Val) (l : Label) → may_stand w.machine (Region q) v ≡ true → label_of w.machine.store v ≡ Some l
      → may_lead w.machine.windows q l ≡ true
  stand-leads q val.Nil l h e = none-some l e
  stand-leads q (val.Int z) l h e = none-some l e
  stand-leads q (val.Bool b) l h e = none-some l e
  stand-leads q (val.Obj a) l h e = of l (sym (ap (λ (k : Option Label). elim k [
    | None ↦ false
    | Some (Region r) ↦ r == q
    | Some (Temp n) ↦ false
    | Some Frozen ↦ true
  ]) e) ∙ h)
    where
      of : (l : Label) → elim l [ Region r ↦ r == q | Temp n ↦ false | Frozen ↦ true ] ≡ true → may_lead w.machine.windows q l ≡ true
      of (Region r) h = ap (λ b. b || is_shut_or_above w.machine.windows r q) h
      of (Temp n) h = off h
      of Frozen h = refl

  -- nor into a closed region, where the object may be written
  stand-open : {B : Type 0} (l : Label) (v : Val) (r : ℕ) → SomeWindow w.machine.windows → is_writable w.machine l ≡ true
      → may_stand w.machine l v ≡ true → is_into w.machine.store r v ≡ true → is_open w.machine.windows r ≡ false → B
  stand-open (Region q) v r some h stand into c = clash (is_open w.machine.windows r)
      (ap (is_open w.machine.windows) (exact v stand into) ∙ top) c
    where
      top : is_open w.machine.windows q ≡ true
      top = ap (is_open w.machine.windows) (eqb-true q (top_region w.machine.windows) h) ∙ top-open w.machine.windows some

      exact : (v : Val) → may_stand w.machine (Region q) v ≡ true → is_into w.machine.store r v ≡ true → r ≡ q
      exact val.Nil s i = off i
      exact (val.Int z) s i = off i
      exact (val.Bool b) s i = off i
      exact (val.Obj a) s i = eqb-true r q (sym (ap (λ (k : Option Label). elim k [
        | None ↦ false
        | Some (Region r) ↦ r == q
        | Some (Temp n) ↦ false
        | Some Frozen ↦ true
      ]) (into-label w.machine.store r (val.Obj a) i)) ∙ s)
  stand-open (Temp n) v r some h stand into c = not-closed w.machine v r (not-true (is_closed w.machine v) stand) into c
  stand-open Frozen v r some h stand into c = off h

  put-object : (k a : ℕ) (v : Val) (o : Seen) → slice_get w.machine.store a ≡ Some o → (is_field w.machine k o
      && not (is_closed w.machine (field_of o k)) && may_stand w.machine o.label v) ≡ true → (m : Match (v ∷ val.Obj a ∷ []) u w (v ∷ val.Obj a ∷ []))
      → GoesOn true also go → SameEnd (also 0 [] (with_store u (put_in u.machine.store (val.Obj a) k v)))
      (go 0 [] (with_store w (put_in w.machine.store (val.Obj a) k v)))
  put-object k a v o there n m next =
      let p = m.1.machine in
      let here = p.on_stack.1.0 in
      let first = is_field w.machine k o && not (is_closed w.machine (field_of o k)) in
      let stand = and-right first (may_stand w.machine o.label v) n in
      let both = and-left first (may_stand w.machine o.label v) n in
      let writes = and-left (is_writable w.machine o.label) (nat_lt k (length o.fields))
      (and-left (is_field w.machine k o) (not (is_closed w.machine (field_of o k))) both) in
      let old = not-true (is_closed w.machine (field_of o k)) (and-right (is_field w.machine k o) (not (is_closed w.machine (field_of o k))) both) in
      let some = p.tidy.some_window in
      subst (λ s. SameEnd (also 0 [] (with_store u s)) (go 0 [] (with_store w (put_in w.machine.store (val.Obj a) k v))))
      (sym (ap (λ (s : Option Seen). elim s [ None ↦ u.machine.store | Some o ↦ slice_set u.machine.store a (with_value_in o k v) ])
      (p.same a here ∙ there)))
      (subst (λ s. SameEnd (also 0 [] (with_store u (slice_set u.machine.store a (with_value_in o k v)))) (go 0 [] (with_store w s)))
      (sym (ap (λ (s : Option Seen). elim s [ None ↦ w.machine.store | Some o ↦ slice_set w.machine.store a (with_value_in o k v) ]) there))
      (next [] (with_store u (slice_set u.machine.store a (with_value_in o k v))) (with_store w (slice_set w.machine.store a (with_value_in o k v))) (
        m.0,
        record {
          machine = part-write m.0 (v ∷ val.Obj a ∷ []) u.machine w.machine (v ∷ val.Obj a ∷ []) a o k v p here there p.on_stack.0
              (λ q l lies is. stand-leads q v l (ap (λ l. may_stand w.machine l v) (sym lies) ∙ stand) is) [] [] tt
              (λ r c into. not-closed w.machine (field_of o k) r old into c)
              (λ r c any. elim (or_cases (is_into w.machine.store r v) (is_into w.machine.store r (val.Obj a) || false) any) [
                | inl top ↦ stand-open o.label v r some writes stand top c
                | inr below ↦ elim (or_cases (is_into w.machine.store r (val.Obj a)) false below) [
                  | inl it ↦ writable-open w.machine o.label r some writes
                      (same_Some o.label (Region r) (sym (label-there w.machine.store a o there) ∙ into-label w.machine.store r (val.Obj a) it)) c
                  | inr none ↦ off none
                ]
              ]);
          input = m.1.input;
          printed = m.1.printed;
        },
      )))

  put-value : (k : ℕ) (v r : Val) → elim (object_at w.machine.store r) [
    | Ok o ↦ is_field w.machine k o && not (is_closed w.machine (field_of o k)) && may_stand w.machine o.label v
    | Err t ↦ false
  ] ≡ true → Match (v ∷ r ∷ []) u w (v ∷ r ∷ []) → GoesOn true also go
      → SameEnd (also 0 [] (with_store u (put_in u.machine.store r k v))) (go 0 [] (with_store w (put_in w.machine.store r k v)))
  put-value k v val.Nil n m next = off n
  put-value k v (val.Int z) n m next = off n
  put-value k v (val.Bool b) n m next = off n
  put-value k v (val.Obj a) n m next = by (slice_get w.machine.store a) refl n
    where
      by : (s : Option Seen) → slice_get w.machine.store a ≡ s → elim (ok_or s trap.Nil) [
        | Ok o ↦ is_field w.machine k o && not (is_closed w.machine (field_of o k)) && may_stand w.machine o.label v
        | Err t ↦ false
      ] ≡ true → SameEnd (also 0 [] (with_store u (put_in u.machine.store (val.Obj a) k v)))
          (go 0 [] (with_store w (put_in w.machine.store (val.Obj a) k v)))
      by None e n = off n
      by (Some o) e n = put-object k a v o e n m next

  pub put-same : (k : ℕ) (stack : List Val) → needs code (i.Put k) stack w.machine ≡ true → Match (owners_of taken stack) u w stack
      → GoesOn true also go → SameEnd (free_act code at (i.Put k) also stack u) (act code at (i.Put k) go stack w)
  put-same k [] n m next = tt
  put-same k (v ∷ []) n m next = tt
  put-same k (v ∷ r ∷ x ∷ more) n m next = off n
  put-same k (v ∷ r ∷ []) n m next = put-value k v r n (match-more taken u w (v ∷ r ∷ []) m) next

  -- a value goes into an element

  element-value : (v x r : Val) → elim (object_at w.machine.store r) [
    | Ok o ↦ is_field w.machine (place_named o x) o && not (is_closed w.machine (field_of o (place_named o x))) && may_stand w.machine o.label v
    | Err t ↦ false
  ] ≡ true → Match (v ∷ r ∷ []) u w (v ∷ r ∷ []) → GoesOn true also go
      → SameEnd (also 0 [] (with_store u (put_element u.machine.store r x v))) (go 0 [] (with_store w (put_element w.machine.store r x v)))
  element-value v x val.Nil n m next = off n
  element-value v x (val.Int z) n m next = off n
  element-value v x (val.Bool b) n m next = off n
  element-value v x (val.Obj a) n m next = by (slice_get w.machine.store a) refl n
    where
      by : (s : Option Seen) → slice_get w.machine.store a ≡ s → elim (ok_or s trap.Nil) [
        | Ok o ↦ is_field w.machine (place_named o x) o && not (is_closed w.machine (field_of o (place_named o x)))
            && may_stand w.machine o.label v
        | Err t ↦ false
      ] ≡ true → SameEnd (also 0 [] (with_store u (put_element u.machine.store (val.Obj a) x v)))
          (go 0 [] (with_store w (put_element w.machine.store (val.Obj a) x v)))
      by None e n = off n
      by (Some o) e n =
          let put : List Seen → Option Seen → List Seen = λ store s. elim (ok_or s trap.Nil) [
            | Ok o ↦ put_in store (val.Obj a) (place_named o x) v
            | Err t ↦ store
          ] in
          subst (λ s. SameEnd (also 0 [] (with_store u s)) (go 0 [] (with_store w (put_element w.machine.store (val.Obj a) x v))))
          (sym (ap (put u.machine.store) (m.1.machine.same a m.1.machine.on_stack.1.0 ∙ e)))
          (subst (λ s. SameEnd (also 0 [] (with_store u (put_in u.machine.store (val.Obj a) (place_named o x) v))) (go 0 [] (with_store w s)))
          (sym (ap (put w.machine.store) e)) (put-object (place_named o x) a v o e n m next))

  pub put-element-same : (stack : List Val) → needs code i.PutElement stack w.machine ≡ true → Match (owners_of taken stack) u w stack
      → GoesOn true also go → SameEnd (free_act code at i.PutElement also stack u) (act code at i.PutElement go stack w)
  put-element-same [] n m next = tt
  put-element-same (v ∷ []) n m next = tt
  put-element-same (v ∷ x ∷ []) n m next = tt
  put-element-same (v ∷ x ∷ r ∷ y ∷ more) n m next = off n
  put-element-same (v ∷ x ∷ r ∷ []) n m next =
      let test : Truth = elim (object_at w.machine.store r) [
        | Ok o ↦ is_field w.machine (place_named o x) o && not (is_closed w.machine (field_of o (place_named o x)))
            && may_stand w.machine o.label v
        | Err t ↦ false
      ] in
      let shut = not-true (is_closed w.machine x) (and-left (not (is_closed w.machine x)) test n) in
      let now = match-more taken u w (v ∷ x ∷ r ∷ []) m in
      let others = match-owners (v ∷ x ∷ r ∷ []) (v ∷ r ∷ []) u w (v ∷ x ∷ r ∷ []) now (λ q c any.
      elim (or_cases (is_into w.machine.store q v) (list_any (is_into w.machine.store q) (x ∷ r ∷ [])) any) [
        | inl top ↦ inr (ap (λ b. b || (is_into w.machine.store q r || false)) top)
        | inr rest ↦ elim (or_cases (is_into w.machine.store q x) (is_into w.machine.store q r || false) rest) [
          | inl index ↦ not-closed w.machine x q shut index c
          | inr last ↦ inr (or_right (is_into w.machine.store q v) (is_into w.machine.store q r || false) last)
        ]
      ]) in
      element-value v x r (and-right (not (is_closed w.machine x)) test n)
      (match-stack (v ∷ r ∷ []) u w (v ∷ x ∷ r ∷ []) (v ∷ r ∷ []) others
      (others.1.machine.on_stack.0, others.1.machine.on_stack.1.1)) next

  -- a reference into a closed region, or nil, may stand in a region's field
  owns-leads : (v : Val) (q : ℕ) (l : Label) → owns_or_nil w.machine v ≡ true → label_of w.machine.store v ≡ Some l
      → may_lead w.machine.windows q l ≡ true
  owns-leads v q l h is = elim (or_cases (is_nil_value v) (is_closed w.machine v) h) [ inl nil ↦ none v nil is | inr c ↦ closed l is c ]
    where
      none : (v : Val) → is_nil_value v ≡ true → label_of w.machine.store v ≡ Some l → may_lead w.machine.windows q l ≡ true
      none val.Nil h is = none-some l is
      none (val.Int z) h is = none-some l is
      none (val.Bool b) h is = none-some l is
      none (val.Obj a) h is = off h

      of : (r : ℕ) (b : Truth) → is_open w.machine.windows r ≡ b
          → is_some (if b then None else Some r) ≡ true → may_lead w.machine.windows q (Region r) ≡ true
      of r true e h = off h
      of r false e h = by (r == q)
        where
          by : (t : Truth) → (t || is_shut_or_above w.machine.windows r q) ≡ true
          by true = refl
          by false = closed-above w.machine.windows r q e

      closed : (l : Label) → label_of w.machine.store v ≡ Some l → is_closed w.machine v ≡ true → may_lead w.machine.windows q l ≡ true
      closed l is c = by l (sym (ap (λ (k : Option Label). is_some (option_and_then (closed_of w.machine.windows) k)) is) ∙ c)
        where
          by : (l : Label) → is_some (closed_of w.machine.windows l) ≡ true → may_lead w.machine.windows q l ≡ true
          by (Region r) h = of r (is_open w.machine.windows r) refl h
          by (Temp k) h = off h
          by Frozen h = refl

  -- an object that may be written is outside of each closed region
  writable-outside : (l : Label) (r : ℕ) → SomeWindow w.machine.windows → is_writable w.machine l ≡ true → is_open w.machine.windows r ≡ false
      → is_outside w.machine.windows r l ≡ true
  writable-outside (Region q) r some h c = ap not (ne_eqb q r (λ e. writable-open w.machine (Region q) r some h (ap Region e) c))
  writable-outside (Temp k) r some h c =
      ap (has_window w.machine.windows) (eqb-true k (top_window w.machine.windows) h) ∙ top-numbered w.machine.windows some
  writable-outside Frozen r some h c = refl

  swap-object : (s k a : ℕ) (o : Seen) → slice_get w.machine.store a ≡ Some o → nat_lt s (size_of w.machine) ≡ true
      → (owned_once w.machine && is_field w.machine k o && owns_or_nil w.machine (field_of o k) && owns_or_nil w.machine (slot_at w.machine s)) ≡ true
      → (m : Match (val.Obj a ∷ []) u w (val.Obj a ∷ []))
      → Part m.0 [] (put_slot (record u.machine { store = slice_set u.machine.store a (with_value_in o k (slot_at w.machine s)) }) s (field_of o k))
      (put_slot (record w.machine { store = slice_set w.machine.store a (with_value_in o k (slot_at w.machine s)) }) s (field_of o k)) []
  swap-object s k a o there less n m = part-owners m.0 (old ∷ []) f2 m2 [] twice [] (λ r c any. inl (inr (
    record {
      object = a;
      field = k;
      holder = with_value_in o k old;
      value = old;
      holder_there = get-set w.machine.store a (with_value_in o k old) o there;
      value_there = set-new o.fields k old field_less;
      outside = writable-outside o.label r p.tidy.some_window writes c;
      into = elim (or_cases (is_into m1.store r old) false any) [ inl it ↦ it | inr none ↦ off none ];
    },
    here,
  )))
    where
      p : Part m.0 (val.Obj a ∷ []) u.machine w.machine (val.Obj a ∷ [])
      p = m.1.machine

      here : m.0 a ≡ true
      here = p.on_stack.0

      old : Val
      old = slot_at w.machine s

      f1 : Machine
      f1 = record u.machine { store = slice_set u.machine.store a (with_value_in o k old) }

      m1 : Machine
      m1 = record w.machine { store = slice_set w.machine.store a (with_value_in o k old) }

      f2 : Machine
      f2 = put_slot f1 s (field_of o k)

      m2 : Machine
      m2 = put_slot m1 s (field_of o k)

      front : Truth
      front = owned_once w.machine && is_field w.machine k o

      both : (front && owns_or_nil w.machine (field_of o k)) ≡ true
      both = and-left (front && owns_or_nil w.machine (field_of o k)) (owns_or_nil w.machine old) n

      is_one : is_field w.machine k o ≡ true
      is_one = and-right (owned_once w.machine) (is_field w.machine k o) (and-left front (owns_or_nil w.machine (field_of o k)) both)

      writes : is_writable w.machine o.label ≡ true
      writes = and-left (is_writable w.machine o.label) (nat_lt k (length o.fields)) is_one

      field_less : k < length o.fields
      field_less = (let h = and-right (is_writable w.machine o.label) (nat_lt k (length o.fields)) is_one in grind (arith, h))

      once : Part m.0 (field_of o k ∷ []) f1 m1 []
      once = part-write m.0 (val.Obj a ∷ []) u.machine w.machine (val.Obj a ∷ []) a o k old p here there
          (slot-leads m.0 (val.Obj a ∷ []) u.machine w.machine (val.Obj a ∷ []) p s)
          (λ q l lies is. owns-leads old q l (and-right (front && owns_or_nil w.machine (field_of o k)) (owns_or_nil w.machine old) n) is)
          (field_of o k ∷ []) [] tt (λ r c into. inr (ap (λ b. b || false) into))
          (λ r c any. elim (or_cases (is_into w.machine.store r (val.Obj a)) false any) [
            | inl it ↦ writable-open w.machine o.label r p.tidy.some_window writes
                (same_Some o.label (Region r) (sym (label-there w.machine.store a o there) ∙ into-label w.machine.store r (val.Obj a) it)) c
            | inr none ↦ off none
          ])

      twice : Part m.0 (old ∷ []) f2 m2 []
      twice = part-put m.0 (field_of o k ∷ []) f1 m1 [] once s (field_of o k) (old ∷ []) []
          (field-leads m.0 (val.Obj a ∷ []) u.machine w.machine (val.Obj a ∷ []) p (val.Obj a) here o (ap (λ s. ok_or s trap.Nil) there) k) tt
          (λ r c into. inr (ap (λ b. b || false) into))
          (λ r c any. elim (or_cases (is_into m1.store r (field_of o k)) false any) [
            | inl it ↦ inl (inl (put-there m1 s (field_of o k) r less it))
            | inr none ↦ off none
          ])

  swap-value : (s k : ℕ) (r : Val) → nat_lt s (size_of w.machine) ≡ true → elim (object_at w.machine.store r) [
    | Ok o ↦ owned_once w.machine && is_field w.machine k o && owns_or_nil w.machine (field_of o k) && owns_or_nil w.machine (slot_at w.machine s)
    | Err t ↦ true
  ] ≡ true → Match (r ∷ []) u w (r ∷ []) → GoesOn true also go
      → SameEnd (on_object u.machine.store r (λ o. also 0 [] (stored (with_store u (put_in u.machine.store r k (slot_at u.machine s))) s
      (field_of o k))))
      (on_object w.machine.store r (λ o. go 0 [] (stored (with_store w (put_in w.machine.store r k (slot_at w.machine s))) s (field_of o k))))
  swap-value s k val.Nil less n m next = refl
  swap-value s k (val.Int z) less n m next = refl
  swap-value s k (val.Bool b) less n m next = refl
  swap-value s k (val.Obj a) less n m next =
      subst (λ x. SameEnd (elim (ok_or x trap.Nil) [
        | Ok o ↦ also 0 [] (stored (with_store u (elim x [
          | None ↦ u.machine.store
          | Some o ↦ slice_set u.machine.store a (with_value_in o k (slot_at u.machine s))
        ])) s (field_of o k))
        | Err t ↦ Traps t
      ]) (elim (ok_or (slice_get w.machine.store a) trap.Nil) [
        | Ok o ↦ go 0 [] (stored (with_store w (put_in w.machine.store (val.Obj a) k (slot_at w.machine s))) s (field_of o k))
        | Err t ↦ Traps t
      ])) (sym (m.1.machine.same a m.1.machine.on_stack.0)) (by (slice_get w.machine.store a) refl n)
    where
      by : (x : Option Seen) → slice_get w.machine.store a ≡ x → elim (ok_or x trap.Nil) [
        | Ok o ↦ owned_once w.machine && is_field w.machine k o && owns_or_nil w.machine (field_of o k) && owns_or_nil w.machine (slot_at w.machine s)
        | Err t ↦ true
      ] ≡ true → SameEnd (elim (ok_or x trap.Nil) [
        | Ok o ↦ also 0 [] (stored (with_store u (elim x [
          | None ↦ u.machine.store
          | Some o ↦ slice_set u.machine.store a (with_value_in o k (slot_at u.machine s))
        ])) s (field_of o k))
        | Err t ↦ Traps t
      ]) (elim (ok_or x trap.Nil) [
        | Ok o ↦ go 0 [] (stored (with_store w (elim x [
          | None ↦ w.machine.store
          | Some o ↦ slice_set w.machine.store a (with_value_in o k (slot_at w.machine s))
        ])) s (field_of o k))
        | Err t ↦ Traps t
      ])
      by None e n = refl
      by (Some o) e n =
          subst (λ v. SameEnd (also 0 [] (stored (with_store u (slice_set u.machine.store a (with_value_in o k v))) s (field_of o k)))
          (go 0 [] (stored (with_store w (slice_set w.machine.store a (with_value_in o k (slot_at w.machine s)))) s (field_of o k))))
          (sym (slot-same m.0 (val.Obj a ∷ []) u.machine w.machine (val.Obj a ∷ []) m.1.machine s))
          (next [] (stored (with_store u (slice_set u.machine.store a (with_value_in o k (slot_at w.machine s)))) s (field_of o k))
          (stored (with_store w (slice_set w.machine.store a (with_value_in o k (slot_at w.machine s)))) s (field_of o k)) (
            m.0,
            record {
              machine = swap-object s k a o e less n m;
              input = m.1.input;
              printed = m.1.printed;
            },
          ))

  pub swap-same : (s k : ℕ) (stack : List Val) → needs code (i.Swap s k) stack w.machine ≡ true → Match (owners_of taken stack) u w stack
      → GoesOn true also go → SameEnd (free_act code at (i.Swap s k) also stack u) (act code at (i.Swap s k) go stack w)
  swap-same s k [] n m next = tt
  swap-same s k (r ∷ x ∷ more) n m next = off n
  swap-same s k (r ∷ []) n m next = swap-value s k r (and-left (nat_lt s (size_of w.machine)) _ n) (and-right (nat_lt s (size_of w.machine)) _ n)
      (match-more taken u w (r ∷ []) m) next
