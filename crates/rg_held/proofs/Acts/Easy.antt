-- Instructions that free nothing and leave objects as they are, each beside the same over the growing store.
use Rattle.std.proofs.Common.{◌≡◌, ℕ, ◌+◌, ◌-◌, ◌==◌, inl, inr, true, false, not, Bool as Truth, List, [], ◌∷◌, length, Option, Some, pos}
use Rattle.std.proofs.Common.{None, Result, Ok, Err, unwrap_or, refl, sym, ap, subst, ◌∙◌, slice_get}
use Rattle.std.proofs.lemmas.Bool.{not-true, eqb-true, or_cases}
use Rattle.std.specs.Prelude.{◌&&◌, nat_lt, neg_ℤ, if◌then◌else◌}
use Rattle.std.specs.List.{list_any}
use Rattle.rg_base.specs.declared.limits.TheConstants.{FRAMES}
use Rattle.rg_base.specs.declared.object.Seen.{Seen}
use Rattle.rg_base.specs.declared.outcome.Trap.{Trap}
use Rattle.rg_base.specs.declared.outcome.Trap.TheVariants as trap
use Rattle.rg_base.specs.Input.{NextNumber, found, malformed, at_end, next_number}
use Rattle.rg_base.specs.declared.value.Val.{Val}
use Rattle.rg_base.specs.declared.value.Val.TheVariants as val
use Rattle.rg_rules.specs.Values.{as_int, as_bool, number_value}
use Rattle.rg_rules.specs.Evaluation.{object_at, element_place}
use Rattle.rg_rules.specs.RightSides.{is_left}
use Rattle.rg_code.specs.declared.op.Op.TheVariants as i
use Rattle.rg_code.specs.Code.{Code}
use Rattle.rg_stack.specs.Machine.{slot_at}
use Rattle.rg_stack.specs.Effects.{Traps, Go, act, next_taken, on_top, stored, called, element_in, place_named}
use Rattle.rg_stack.specs.Tops.{Work}
use Rattle.rg_code.specs.declared.code.Entry.{Entry}
use Rattle.rg_stack.specs.Needs.{is_closed, is_empty, owned_once, may_keep, needs}
use Rattle.rg_stack.specs.Places.{size_of}
use Rattle.rg_stack.specs.Labels.{is_into}
use Rattle.rg_stack.proofs.Basics.{and-left, and-right}
use Rattle.rg_held.specs.Frees.{free_act}
use Rattle.rg_held.specs.Part.{leads_to}
use Rattle.rg_held.specs.Ends.{Match, SameEnd}
use Rattle.rg_held.specs.Laws.{owners_of, GoesOn, GoesTo}
use Rattle.rg_held.proofs.Lists.{off}
use Rattle.rg_held.proofs.Places.{closed-there, not-closed}
use Rattle.rg_held.proofs.Acts.Stack.{match-stack, match-owners, match-more, number-plain, slot-leads, slot-same, object-same, field-leads}
use Rattle.rg_held.proofs.Acts.Stack.{pushed-same, push-same}
use Rattle.rg_held.proofs.Parts.Part.{part-stack, part-owners}
use Rattle.rg_held.proofs.Parts.Slot.{part-put, put-there, part-call}

-- a walk ends at an address
pub stop-same : (at : ℕ) (taken : Truth) (stack : List Val) (u w : Work) → is_empty stack ≡ true → Match (owners_of taken stack) u w stack
    → Match [] u w []
stop-same at true [] u w e m = m
stop-same at false [] u w e m = m
stop-same at taken (v ∷ vs) u w e m = off e

module _ (code : Code) (at : ℕ) (also go : Go) (u w : Work) where
  pub load-same : (s : ℕ) (stack : List Val) → Match [] u w stack → GoesOn false also go
      → SameEnd (free_act code at (i.Load s) also stack u) (act code at (i.Load s) go stack w)
  load-same s stack m next =
      subst (λ v. SameEnd (also 0 (v ∷ stack) u) (go 0 (slot_at w.machine s ∷ stack) w))
      (sym (slot-same m.0 [] u.machine w.machine stack m.1.machine s))
      (push-same also go u w (slot_at w.machine s) stack m (slot-leads m.0 [] u.machine w.machine stack m.1.machine s) next)

  pub field-same : (k : ℕ) (stack : List Val) → Match [] u w stack → GoesOn false also go
      → SameEnd (free_act code at (i.Field k) also stack u) (act code at (i.Field k) go stack w)
  field-same k [] m next = tt
  field-same k (v ∷ stack) m next =
      let lead = m.1.machine.on_stack.0 in
      subst (λ r. SameEnd (elim r [ Ok o ↦ also 0 (unwrap_or (slice_get o.fields k) val.Nil ∷ stack) u | Err t ↦ Traps t ])
      (act code at (i.Field k) go (v ∷ stack) w)) (sym (object-same m.0 [] u.machine w.machine (v ∷ stack) m.1.machine v lead))
      (by (object_at w.machine.store v) refl)
    where
      by : (r : Result Seen Trap) → object_at w.machine.store v ≡ r
          → SameEnd (elim r [ Ok o ↦ also 0 (unwrap_or (slice_get o.fields k) val.Nil ∷ stack) u | Err t ↦ Traps t ])
          (elim r [ Ok o ↦ go 0 (unwrap_or (slice_get o.fields k) val.Nil ∷ stack) w | Err t ↦ Traps t ])
      by (Err t) e = refl
      by (Ok o) e = push-same also go u w (unwrap_or (slice_get o.fields k) val.Nil) stack
          (match-stack [] u w (v ∷ stack) stack m m.1.machine.on_stack.1)
          (field-leads m.0 [] u.machine w.machine (v ∷ stack) m.1.machine v m.1.machine.on_stack.0 o e k) next

  pub check-same : (stack : List Val) → Match [] u w stack → GoesOn false also go
      → SameEnd (free_act code at i.Check also stack u) (act code at i.Check go stack w)
  check-same [] m next = tt
  check-same (v ∷ stack) m next =
      subst (λ r. SameEnd (elim r [ Ok o ↦ also 0 (v ∷ stack) u | Err t ↦ Traps t ]) (act code at i.Check go (v ∷ stack) w))
      (sym (object-same m.0 [] u.machine w.machine (v ∷ stack) m.1.machine v m.1.machine.on_stack.0)) (by (object_at w.machine.store v))
    where
      by : (r : Result Seen Trap) → SameEnd (elim r [ Ok o ↦ also 0 (v ∷ stack) u | Err t ↦ Traps t ])
          (elim r [ Ok o ↦ go 0 (v ∷ stack) w | Err t ↦ Traps t ])
      by (Err t) = refl
      by (Ok o) = next (v ∷ stack) u w m

  -- how many elements an array has
  pub size-same : (stack : List Val) → Match [] u w stack → GoesOn false also go
      → SameEnd (free_act code at i.Size also stack u) (act code at i.Size go stack w)
  size-same [] m next = tt
  size-same (v ∷ stack) m next =
      subst (λ r. SameEnd (elim r [ Ok o ↦ also 0 (val.Int (pos (length o.fields)) ∷ stack) u | Err t ↦ Traps t ])
      (act code at i.Size go (v ∷ stack) w))
      (sym (object-same m.0 [] u.machine w.machine (v ∷ stack) m.1.machine v m.1.machine.on_stack.0)) (by (object_at w.machine.store v))
    where
      by : (r : Result Seen Trap) → SameEnd (elim r [ Ok o ↦ also 0 (val.Int (pos (length o.fields)) ∷ stack) u | Err t ↦ Traps t ])
          (elim r [ Ok o ↦ go 0 (val.Int (pos (length o.fields)) ∷ stack) w | Err t ↦ Traps t ])
      by (Err t) = refl
      by (Ok o) = push-same also go u w (val.Int (pos (length o.fields))) stack
          (match-stack [] u w (v ∷ stack) stack m m.1.machine.on_stack.1) refl next

  -- an index is tested
  pub bound-same : (stack : List Val) → Match [] u w stack → GoesOn false also go
      → SameEnd (free_act code at i.Bound also stack u) (act code at i.Bound go stack w)
  bound-same [] m next = tt
  bound-same (x ∷ []) m next = tt
  bound-same (x ∷ v ∷ stack) m next =
      subst (λ r. SameEnd (elim r [
        | Ok o ↦ elim (element_place o x) [ Ok k ↦ also 0 (x ∷ v ∷ stack) u | Err t ↦ Traps t ]
        | Err t ↦ Traps t
      ]) (act code at i.Bound go (x ∷ v ∷ stack) w))
      (sym (object-same m.0 [] u.machine w.machine (x ∷ v ∷ stack) m.1.machine v m.1.machine.on_stack.1.0)) (by (object_at w.machine.store v))
    where
      here : (k : Result ℕ Trap) → SameEnd (elim k [ Ok n ↦ also 0 (x ∷ v ∷ stack) u | Err t ↦ Traps t ])
          (elim k [ Ok n ↦ go 0 (x ∷ v ∷ stack) w | Err t ↦ Traps t ])
      here (Err t) = refl
      here (Ok n) = next (x ∷ v ∷ stack) u w m

      by : (r : Result Seen Trap) → SameEnd (elim r [
        | Ok o ↦ elim (element_place o x) [ Ok k ↦ also 0 (x ∷ v ∷ stack) u | Err t ↦ Traps t ]
        | Err t ↦ Traps t
      ]) (elim r [ Ok o ↦ elim (element_place o x) [ Ok k ↦ go 0 (x ∷ v ∷ stack) w | Err t ↦ Traps t ] | Err t ↦ Traps t ])
      by (Err t) = refl
      by (Ok o) = here (element_place o x)

  -- an element is read
  pub element-same : (stack : List Val) → Match [] u w stack → GoesOn false also go
      → SameEnd (free_act code at i.Element also stack u) (act code at i.Element go stack w)
  element-same [] m next = tt
  element-same (x ∷ []) m next = tt
  element-same (x ∷ v ∷ stack) m next =
      subst (λ r. SameEnd (also 0 (elim r [ Ok o ↦ unwrap_or (slice_get o.fields (place_named o x)) val.Nil | Err t ↦ val.Nil ] ∷ stack) u)
      (act code at i.Element go (x ∷ v ∷ stack) w))
      (sym (object-same m.0 [] u.machine w.machine (x ∷ v ∷ stack) m.1.machine v m.1.machine.on_stack.1.0))
      (push-same also go u w (element_in w.machine.store v x) stack (match-stack [] u w (x ∷ v ∷ stack) stack m m.1.machine.on_stack.1.1)
      (by (object_at w.machine.store v) refl) next)
    where
      by : (r : Result Seen Trap) → object_at w.machine.store v ≡ r
          → leads_to m.0 (elim r [ Ok o ↦ unwrap_or (slice_get o.fields (place_named o x)) val.Nil | Err t ↦ val.Nil ]) ≡ true
      by (Err t) e = refl
      by (Ok o) e = field-leads m.0 [] u.machine w.machine (x ∷ v ∷ stack) m.1.machine v m.1.machine.on_stack.1.0 o e (place_named o x)

  -- the topmost value is looked at, and another one comes
  pub top-same : (f : Val → Val) → ((test : ℕ → Truth) (v : Val) → leads_to test (f v) ≡ true) → (stack : List Val) → Match [] u w stack
      → GoesOn false also go → SameEnd (on_top stack (λ v rest. also 0 (f v ∷ rest) u)) (on_top stack (λ v rest. go 0 (f v ∷ rest) w))
  top-same f plain [] m next = tt
  top-same f plain (v ∷ stack) m next =
      push-same also go u w (f v) stack (match-stack [] u w (v ∷ stack) stack m m.1.machine.on_stack.1) (plain m.0 v) next

  pub neg-same : (stack : List Val) → Match [] u w stack → GoesOn false also go
      → SameEnd (free_act code at i.Neg also stack u) (act code at i.Neg go stack w)
  neg-same [] m next = tt
  neg-same (v ∷ stack) m next = pushed-same also go u w (number_value (neg_ℤ (as_int v))) stack
      (match-stack [] u w (v ∷ stack) stack m m.1.machine.on_stack.1) (λ x e. number-plain m.0 (neg_ℤ (as_int v)) x e) next

  -- an operator that may decide
  decide-same : (t : ℕ) (b : Truth) (v : Val) (stack : List Val) → Match [] u w (v ∷ stack) → GoesOn false also go
      → GoesTo (t - (at + 1)) false also go
      → SameEnd (if b then also 0 stack u else also (t - (at + 1)) (v ∷ stack) u) (if b then go 0 stack w else go (t - (at + 1)) (v ∷ stack) w)
  decide-same t true v stack m next jump = next stack u w (match-stack [] u w (v ∷ stack) stack m m.1.machine.on_stack.1)
  decide-same t false v stack m next jump = jump (v ∷ stack) u w m

  pub and-same : (t : ℕ) (stack : List Val) → Match [] u w stack → GoesOn false also go → GoesTo (t - (at + 1)) false also go
      → SameEnd (free_act code at (i.And t) also stack u) (act code at (i.And t) go stack w)
  and-same t [] m next jump = tt
  and-same t (v ∷ stack) m next jump = decide-same t (as_bool v) v stack m next jump

  or-same-by : (t : ℕ) (b : Truth) (v : Val) (stack : List Val) → Match [] u w (v ∷ stack) → GoesOn false also go
      → GoesTo (t - (at + 1)) false also go
      → SameEnd (if b then also (t - (at + 1)) (v ∷ stack) u else also 0 stack u) (if b then go (t - (at + 1)) (v ∷ stack) w else go 0 stack w)
  or-same-by t false v stack m next jump = next stack u w (match-stack [] u w (v ∷ stack) stack m m.1.machine.on_stack.1)
  or-same-by t true v stack m next jump = jump (v ∷ stack) u w m

  pub or-same : (t : ℕ) (stack : List Val) → Match [] u w stack → GoesOn false also go → GoesTo (t - (at + 1)) false also go
      → SameEnd (free_act code at (i.Or t) also stack u) (act code at (i.Or t) go stack w)
  or-same t [] m next jump = tt
  or-same t (v ∷ stack) m next jump = or-same-by t (as_bool v) v stack m next jump

  pub more-same : (stack : List Val) → Match [] u w stack → GoesOn false also go
      → SameEnd (free_act code at i.More also stack u) (act code at i.More go stack w)
  more-same stack m next =
      subst (λ l. SameEnd (also 0 (val.Bool (is_left (next_number l)) ∷ stack) u) (go 0 (val.Bool (is_left (next_number w.input)) ∷ stack) w))
      (sym m.1.input) (push-same also go u w (val.Bool (is_left (next_number w.input))) stack m refl next)

  pub room-same : (stack : List Val) → Match [] u w stack → GoesOn false also go
      → SameEnd (free_act code at i.Room also stack u) (act code at i.Room go stack w)
  room-same stack m next =
      subst (λ fs. SameEnd (if nat_lt (length fs) FRAMES then also 0 stack u else Traps trap.Depth) (act code at i.Room go stack w))
      (sym m.1.machine.frames) (by (nat_lt (length w.machine.frames) FRAMES))
    where
      by : (b : Truth) → SameEnd (if b then also 0 stack u else Traps trap.Depth) (if b then go 0 stack w else Traps trap.Depth)
      by true = next stack u w m
      by false = refl

  pub read-same : (taken : Truth) (stack : List Val) → Match (owners_of taken stack) u w stack → GoesOn true also go
      → SameEnd (free_act code at i.Read also stack u) (act code at i.Read go stack w)
  read-same taken stack m next =
      subst (λ l. SameEnd (next_taken (next_number l) also stack u) (next_taken (next_number w.input) go stack w)) (sym m.1.input)
      (by (next_number w.input))
    where
      by : (n : NextNumber) → SameEnd (next_taken n also stack u) (next_taken n go stack w)
      by malformed = refl
      by at_end = refl
      by (found z rest) = let now = match-more taken u w stack m in next (val.Int z ∷ stack) (record u { input = rest }) (record w { input = rest }) (
        now.0,
        record {
          machine = part-stack now.0 (val.Int z ∷ stack) u.machine w.machine stack
              (part-owners now.0 stack u.machine w.machine stack now.1.machine (val.Int z ∷ stack) (λ r c e. inr e)) (val.Int z ∷ stack)
              (refl, now.1.machine.on_stack);
          input = refl;
          printed = now.1.printed;
        },
      )

  -- what is on top goes, where it leads into no closed region
  pop-match : (taken : Truth) (v : Val) (rest : List Val) → is_closed w.machine v ≡ false → Match (owners_of taken (v ∷ rest)) u w (v ∷ rest)
      → Match (owners_of taken rest) u w rest
  pop-match false v rest n m = match-stack [] u w (v ∷ rest) rest m m.1.machine.on_stack.1
  pop-match true v rest n m =
      match-stack rest u w (v ∷ rest) rest (match-owners (v ∷ rest) rest u w (v ∷ rest) m
      (λ r c e. elim (or_cases (is_into w.machine.store r v) (list_any (is_into w.machine.store r) rest) e) [
        | inl top ↦ not-closed w.machine v r n top c
        | inr below ↦ inr below
      ])) m.1.machine.on_stack.1

  pub jump-false-same : (t : ℕ) (taken : Truth) (stack : List Val) → needs code (i.JumpFalse t) stack w.machine ≡ true
      → Match (owners_of taken stack) u w stack → GoesOn taken also go → GoesTo (t - (at + 1)) taken also go
      → SameEnd (free_act code at (i.JumpFalse t) also stack u) (act code at (i.JumpFalse t) go stack w)
  jump-false-same t taken [] n m next jump = tt
  jump-false-same t taken (v ∷ rest) n m next jump = by (as_bool v)
    where
      now : Match (owners_of taken rest) u w rest
      now = pop-match taken v rest (not-true (is_closed w.machine v) n) m

      by : (b : Truth) → SameEnd (if b then also 0 rest u else also (t - (at + 1)) rest u) (if b then go 0 rest w else go (t - (at + 1)) rest w)
      by true = next rest u w now
      by false = jump rest u w now

  pub print-same : (taken : Truth) (stack : List Val) → needs code i.Print stack w.machine ≡ true → Match (owners_of taken stack) u w stack
      → GoesOn true also go → SameEnd (free_act code at i.Print also stack u) (act code at i.Print go stack w)
  print-same taken [] n m next = tt
  print-same taken (v ∷ rest) n m next =
      let now = match-more taken u w rest
      (pop-match taken v rest (not-true (is_closed w.machine v) (and-right (is_empty rest) (not (is_closed w.machine v)) n)) m) in
      next rest (record u { printed = Some v }) (record w { printed = Some v })
      (now.0, record { machine = now.1.machine; input = now.1.input; printed = refl })

  pub clear-same : (s : ℕ) (taken : Truth) (stack : List Val) → needs code (i.Clear s) stack w.machine ≡ true
      → Match (owners_of taken stack) u w stack → GoesOn true also go
      → SameEnd (free_act code at (i.Clear s) also stack u) (act code at (i.Clear s) go stack w)
  clear-same s taken stack n m next =
      let now = match-more taken u w stack m in next stack (stored u s val.Nil) (stored w s val.Nil) (
        now.0,
        record {
          machine = part-put now.0 stack u.machine w.machine stack now.1.machine s val.Nil stack stack refl now.1.machine.on_stack
              (λ r c into. inr (ap (λ (o : Option ℕ). elim o [ None ↦ true | Some r ↦ list_any (is_into w.machine.store r) stack ])
              (sym (closed-there w.machine (slot_at w.machine s) r into c)) ∙ and-right (owned_once w.machine) _ n)) (λ r c e. inr e);
          input = now.1.input;
          printed = now.1.printed;
        },
      )

  pub store-same : (s : ℕ) (taken : Truth) (stack : List Val) → needs code (i.Store s) stack w.machine ≡ true
      → Match (owners_of taken stack) u w stack → GoesOn true also go
      → SameEnd (free_act code at (i.Store s) also stack u) (act code at (i.Store s) go stack w)
  store-same s taken [] n m next = tt
  store-same s taken (x ∷ y ∷ rest) n m next = off n
  store-same s taken (v ∷ []) n m next =
      let now = match-more taken u w (v ∷ []) m in
      let room = nat_lt s (size_of w.machine) in
      let shut = not (is_closed w.machine (slot_at w.machine s)) in
      let both = and-left (room && shut) (may_keep w.machine s v) n in
      let less = and-left room shut both in
      let free = not-true (is_closed w.machine (slot_at w.machine s)) (and-right room shut both) in
      next [] (stored u s v) (stored w s v) (
        now.0,
        record {
          machine = part-put now.0 (v ∷ []) u.machine w.machine (v ∷ []) now.1.machine s v [] [] now.1.machine.on_stack.0 tt
              (λ r c into. not-closed w.machine (slot_at w.machine s) r free into c)
              (λ r c e. elim (or_cases (is_into w.machine.store r v) false e) [
                | inl top ↦ inl (inl (put-there w.machine s v r less top))
                | inr none ↦ off none
              ]);
          input = now.1.input;
          printed = now.1.printed;
        },
      )

  called-same : (o : Option Entry) (taken : Truth) (stack : List Val)
      → elim o [ None ↦ true | Some e ↦ length stack == e.given ] ≡ true → Match (owners_of taken stack) u w stack
      → SameEnd (called at o stack u) (called at o stack w)
  called-same None taken stack n m = tt
  called-same (Some e) taken stack n m =
      let now = match-more taken u w stack m in (
        refl,
        (
          now.0,
          record {
            machine = part-call now.0 stack u.machine w.machine stack now.1.machine e.given (e.slots - e.given) (at + 1)
                (eqb-true (length stack) e.given n) (λ r c e. e);
            input = now.1.input;
            printed = now.1.printed;
          },
        ),
      )

  pub call-same : (k : ℕ) (taken : Truth) (stack : List Val) → needs code (i.Call k) stack w.machine ≡ true
      → Match (owners_of taken stack) u w stack → SameEnd (free_act code at (i.Call k) also stack u) (act code at (i.Call k) go stack w)
  call-same k taken stack n m = called-same (slice_get code.entries k) taken stack n m
