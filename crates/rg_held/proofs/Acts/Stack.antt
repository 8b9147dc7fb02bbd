-- Instructions that work on the stack alone.
use Rattle.std.proofs.Common.{◌≡◌, ℕ, ◌⊎◌, inl, inr, true, false, Bool as Truth, List, [], ◌∷◌, Option, Some}
use Rattle.std.proofs.Common.{None, Result, Ok, Err, unwrap_or, refl, sym, ap, ◌∙◌, slice_get}
use Rattle.std.specs.Prelude.{ℤ, ◌+ℤ◌, ◌-ℤ◌, ◌*ℤ◌, int_div, int_rem, ok_or, if◌then◌else◌}
use Rattle.std.specs.List.{list_any}
use Rattle.rg_base.specs.declared.object.Seen.{Seen}
use Rattle.rg_base.specs.declared.outcome.Trap.{Trap}
use Rattle.rg_base.specs.declared.outcome.Trap.TheVariants as trap
use Rattle.rg_base.specs.Input.{in_range}
use Rattle.rg_base.specs.declared.value.Val.{Val}
use Rattle.rg_base.specs.declared.value.Val.TheVariants as val
use Rattle.rg_tree.specs.declared.rows.BinOp.{BinOp}
use Rattle.rg_tree.specs.declared.rows.BinOp.TheVariants as op
use Rattle.rg_rules.specs.Values.{Computed, as_int, number_value, is_zero, divided, operate}
use Rattle.rg_rules.specs.Evaluation.{object_at}
use Rattle.rg_stack.specs.Machine.{Machine, top_slots, slot_at}
use Rattle.rg_stack.specs.Effects.{Go, pushed, on_two}
use Rattle.rg_stack.specs.Tops.{Work}
use Rattle.rg_stack.specs.Labels.{is_open, is_into}
use Rattle.rg_held.specs.Part.{leads_to, AllLead, Placed, Part}
use Rattle.rg_held.specs.Ends.{Match, SameEnd}
use Rattle.rg_held.specs.Laws.{owners_of, GoesOn}
use Rattle.rg_held.proofs.Lists.{off}
use Rattle.rg_held.proofs.Parts.Part.{part-stack, part-owners, top-leads}
use Rattle.rg_stack.specs.Needs.{is_closed}
use Rattle.rg_held.proofs.Places.{not-closed}
use Rattle.std.proofs.lemmas.Bool.{or_cases}

-- another stack
abbrev pub match-stack : (owners : List Val) (u w : Work) (stack left : List Val) (m : Match owners u w stack) → AllLead m.0 left
    → Match owners u w left
match-stack owners u w stack left m h = (
  m.0,
  record {
    machine = part-stack m.0 owners u.machine w.machine stack m.1.machine left h;
    input = m.1.input;
    printed = m.1.printed;
  },
)

-- other owners
abbrev pub match-owners : (owners kept : List Val) (u w : Work) (stack : List Val) (m : Match owners u w stack)
    → ((r : ℕ) → is_open w.machine.windows r ≡ false → list_any (is_into w.machine.store r) owners ≡ true
    → Placed m.0 w.machine r ⊎ (list_any (is_into w.machine.store r) kept ≡ true)) → Match kept u w stack
match-owners owners kept u w stack m h = (
  m.0,
  record {
    machine = part-owners m.0 owners u.machine w.machine stack m.1.machine kept h;
    input = m.1.input;
    printed = m.1.printed;
  },
)

-- where none was taken, all on the stack may be counted
pub match-more : (taken : Truth) (u w : Work) (stack : List Val) → Match (owners_of taken stack) u w stack → Match stack u w stack
match-more true u w stack m = m
match-more false u w stack m = match-owners [] stack u w stack m (λ r c e. off e)

-- a value that leads into no closed region counts for nothing
pub match-popped : (u w : Work) (v : Val) (stack : List Val) → is_closed w.machine v ≡ false → Match (v ∷ stack) u w (v ∷ stack)
    → Match stack u w stack
match-popped u w v stack shut m =
    let others = match-owners (v ∷ stack) stack u w (v ∷ stack) m (λ r c any.
    elim (or_cases (is_into w.machine.store r v) (list_any (is_into w.machine.store r) stack) any) [
      | inl top ↦ not-closed w.machine v r shut top c
      | inr rest ↦ inr rest
    ]) in
    match-stack stack u w (v ∷ stack) stack others others.1.machine.on_stack.1

-- an operator gives no reference

pub number-plain : (test : ℕ → Truth) (z : ℤ) (v : Val) → number_value z ≡ Ok v → leads_to test v ≡ true
number-plain test z v e = by (in_range z) e
  where
    by : (t : Truth) → (if t then Ok (val.Int z) else Err trap.Overflow) ≡ Ok v → leads_to test v ≡ true
    by true e = ap (λ (c : Computed). elim c [ Ok v ↦ leads_to test v | Err t ↦ true ]) (sym e)
    by false e = ap (λ (c : Computed). elim c [ Ok v ↦ leads_to test v | Err t ↦ true ]) (sym e)

divided-plain : (test : ℕ → Truth) (x y z : ℤ) (v : Val) → divided x y z ≡ Ok v → leads_to test v ≡ true
divided-plain test x y z v e = by (is_zero y) (in_range (int_div x y)) e
  where
    by : (s t : Truth) → (if s then Err trap.Zero else (if t then Ok (val.Int z) else Err trap.Overflow)) ≡ Ok v → leads_to test v ≡ true
    by true t e = ap (λ (c : Computed). elim c [ Ok v ↦ leads_to test v | Err t ↦ true ]) (sym e)
    by false true e = ap (λ (c : Computed). elim c [ Ok v ↦ leads_to test v | Err t ↦ true ]) (sym e)
    by false false e = ap (λ (c : Computed). elim c [ Ok v ↦ leads_to test v | Err t ↦ true ]) (sym e)

truth-plain : (test : ℕ → Truth) (t : Truth) (v : Val) → ◌≡◌ {A = Computed} (Ok (val.Bool t)) (Ok v) → leads_to test v ≡ true
truth-plain test t v e = ap (λ (c : Computed). elim c [ Ok v ↦ leads_to test v | Err t ↦ true ]) (sym e)

operator-plain : (o : BinOp) (test : ℕ → Truth) (x y v : Val) → operate o x y ≡ Ok v → leads_to test v ≡ true
operator-plain op.Or test x y v e = truth-plain test _ v e
operator-plain op.And test x y v e = truth-plain test _ v e
operator-plain op.Eq test x y v e = truth-plain test _ v e
operator-plain op.Ne test x y v e = truth-plain test _ v e
operator-plain op.Lt test x y v e = truth-plain test _ v e
operator-plain op.Le test x y v e = truth-plain test _ v e
operator-plain op.Gt test x y v e = truth-plain test _ v e
operator-plain op.Ge test x y v e = truth-plain test _ v e
operator-plain op.Add test x y v e = number-plain test (as_int x +ℤ as_int y) v e
operator-plain op.Sub test x y v e = number-plain test (as_int x -ℤ as_int y) v e
operator-plain op.Mul test x y v e = number-plain test (as_int x *ℤ as_int y) v e
operator-plain op.Div test x y v e = divided-plain test (as_int x) (as_int y) (int_div (as_int x) (as_int y)) v e
operator-plain op.Rem test x y v e = divided-plain test (as_int x) (as_int y) (int_rem (as_int x) (as_int y)) v e

-- what a slot of the topmost frame holds leads to what is held
pub slot-leads : (held : ℕ → Truth) (owners : List Val) (f m : Machine) (stack : List Val) → Part held owners f m stack → (s : ℕ)
    → leads_to held (slot_at m s) ≡ true
slot-leads held owners f m stack p s = top-leads held m s p.slots

pub slot-same : (held : ℕ → Truth) (owners : List Val) (f m : Machine) (stack : List Val) → Part held owners f m stack → (s : ℕ)
    → slot_at f s ≡ slot_at m s
slot-same held owners f m stack p s = ap (λ fs. unwrap_or (slice_get (top_slots fs) s) val.Nil) p.frames

-- a value that leads to what is held leads to the same object
pub object-same : (held : ℕ → Truth) (owners : List Val) (f m : Machine) (stack : List Val) → Part held owners f m stack → (v : Val)
    → leads_to held v ≡ true → object_at f.store v ≡ object_at m.store v
object-same held owners f m stack p val.Nil h = refl
object-same held owners f m stack p (val.Int z) h = refl
object-same held owners f m stack p (val.Bool b) h = refl
object-same held owners f m stack p (val.Obj a) h = ap (λ o. ok_or o trap.Nil) (p.same a h)

-- a field of such an object leads to what is held
pub field-leads : (held : ℕ → Truth) (owners : List Val) (f m : Machine) (stack : List Val) → Part held owners f m stack → (v : Val)
    → leads_to held v ≡ true → (o : Seen) → object_at m.store v ≡ Ok o → (k : ℕ) → leads_to held (unwrap_or (slice_get o.fields k) val.Nil) ≡ true
field-leads held owners f m stack p v h o e k = by v h e
  where
    no : {B : Type 0} → ◌≡◌ {A = Result Seen Trap} (Err trap.Nil) (Ok o) → B
    no e = off (ap (λ (r : Result Seen Trap). elim r [ Ok o ↦ true | Err t ↦ false ]) e)

    there : (a : ℕ) (s : Option Seen) → slice_get m.store a ≡ s → ok_or s trap.Nil ≡ Ok o → slice_get m.store a ≡ Some o
    there a None h e = no e
    there a (Some q) h e = h ∙ ap (λ (r : Result Seen Trap). elim r [ Ok o ↦ Some o | Err t ↦ None ]) e

    of : (a : ℕ) → held a ≡ true → slice_get m.store a ≡ Some o → (s : Option Val) → slice_get o.fields k ≡ s
        → leads_to held (unwrap_or s val.Nil) ≡ true
    of a h t None at = refl
    of a h t (Some u) at = p.fields a o k u h t at

    by : (v : Val) → leads_to held v ≡ true → object_at m.store v ≡ Ok o → leads_to held (unwrap_or (slice_get o.fields k) val.Nil) ≡ true
    by val.Nil h e = no e
    by (val.Int z) h e = no e
    by (val.Bool b) h e = no e
    by (val.Obj a) h e = of a h (there a (slice_get m.store a) refl e) (slice_get o.fields k) refl

module _ (also go : Go) (u w : Work) where
  -- a value that is computed
  pub pushed-same : (c : Computed) (stack : List Val) (m : Match [] u w stack) → ((v : Val) → c ≡ Ok v → leads_to m.0 v ≡ true)
      → GoesOn false also go → SameEnd (pushed c also stack u) (pushed c go stack w)
  pushed-same (Err t) stack m lead next = refl
  pushed-same (Ok v) stack m lead next = next (v ∷ stack) u w (match-stack [] u w stack (v ∷ stack) m (lead v refl, m.1.machine.on_stack))

  pub two-same : (o : BinOp) (stack : List Val) → Match [] u w stack → GoesOn false also go
      → SameEnd (on_two o also stack u) (on_two o go stack w)
  two-same o [] m next = tt
  two-same o (y ∷ []) m next = tt
  two-same o (y ∷ x ∷ stack) m next = pushed-same (operate o x y) stack
      (match-stack [] u w (y ∷ x ∷ stack) stack m (m.1.machine.on_stack.1.1)) (λ v e. operator-plain o m.0 x y v e) next

  -- a value that is pushed
  pub push-same : (v : Val) (stack : List Val) (m : Match [] u w stack) → leads_to m.0 v ≡ true → GoesOn false also go
      → SameEnd (also 0 (v ∷ stack) u) (go 0 (v ∷ stack) w)
  push-same v stack m lead next = next (v ∷ stack) u w (match-stack [] u w stack (v ∷ stack) m (lead, m.1.machine.on_stack))
