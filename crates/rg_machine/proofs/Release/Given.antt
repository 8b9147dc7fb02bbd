-- `pop`, `drop` and `own`: what they do, and what `own` is given.
use Rattle.std.proofs.Common.{◌≡◌, ◌||◌, ◌&&◌, inl, inr, ℕ, zero, suc, Bool as Truth, true, false, not, List, [], ◌∷◌, Option, Some, None}
use Rattle.std.proofs.Common.{nat_le, nat_lt, slice_get, slice_set, refl, sym, ap, ◌∙◌, subst}
use Rattle.std.proofs.lemmas.Bool.{false≢true, and_parts}
use Rattle.std.proofs.lemmas.Option.{none-some, same_Some}
use Rattle.rg_base.specs.declared.object.Label.{Label}
use Rattle.rg_base.specs.declared.value.Val.{Val}
use Rattle.rg_base.specs.declared.value.Val.TheVariants.{Nil}
use Rattle.rg_code.specs.Code.{empty}
use Rattle.rg_code.specs.declared.op.Op.TheVariants as i
use Rattle.rg_held.specs.Frees.{free_act}
use Rattle.rg_stack.specs.Machine.{Frame, Machine, place_of, put_slot, slot_at, top_slots, with_slots}
use Rattle.rg_stack.specs.Needs.{is_empty, is_open_label, leads_open, loose, may_keep, owned_once, owns_or_nil}
use Rattle.rg_stack.specs.Places.{size_of, top_base}
use Rattle.rg_stack.specs.Labels.{label_of}
use Rattle.rg_stack.proofs.Callers.List.{empty-is}
use Rattle.rg_machine.specs.declared.next.Next.TheVariants as next
use Rattle.rg_machine.specs.Core.{ActIs, Core, Has, below_top, with_machine, with_top}
use Rattle.rg_machine.specs.Effects.{AllLoose, without}
use Rattle.rg_machine.proofs.Release.Fewer.{label-buried, regions-with, store-without}

-- what `pop` and `drop` do
pub pop-effect : (old mid new : Core) (v : Val) → old ≡ with_top mid v → new ≡ without mid (v ∷ []) → (at : ℕ)
    → ActIs (free_act empty at i.Pop) at old new next.On
pop-effect old mid new v e f at =
    subst (λ o. ActIs (free_act empty at i.Pop) at o new next.On) (sym e)
    (subst (λ n. ActIs (free_act empty at i.Pop) at (with_top mid v) n next.On) (sym f) (λ go input. refl))

-- What `own` is given

pub record Owned (c : Core) (s : ℕ) (v : Val) : Type 0 where
  pub none : c.stack ≡ []
  pub once : owned_once c.machine ≡ true
  pub free : loose c.machine v ≡ true
  pub keeps : may_keep c.machine s v ≡ true

pub own-given : (old : Core) (s : ℕ) (v : Val) → old ≡ with_top (below_top old) v → Has (i.Own s) old → Owned (below_top old) s v
own-given old s v e given =
    let m = old.machine in
    let rest = (below_top old).stack in
    let all : (is_empty rest && nat_lt s (size_of m) && owned_once m && owns_or_nil m (slot_at m s) && loose m v && may_keep m s v) ≡ true =
    subst (Has (i.Own s)) e given in
    let a = and_parts (is_empty rest && nat_lt s (size_of m) && owned_once m && owns_or_nil m (slot_at m s) && loose m v) (may_keep m s v) all in
    let b = and_parts (is_empty rest && nat_lt s (size_of m) && owned_once m && owns_or_nil m (slot_at m s)) (loose m v) a.0 in
    let d = and_parts (is_empty rest && nat_lt s (size_of m) && owned_once m) (owns_or_nil m (slot_at m s)) b.0 in
    let f = and_parts (is_empty rest && nat_lt s (size_of m)) (owned_once m) d.0 in
    let g = and_parts (is_empty rest) (nat_lt s (size_of m)) f.0 in
    record { none = empty-is rest g.0; once = f.1; free = b.1; keeps = a.1 }

pub own-loose : (old : Core) (s : ℕ) (v : Val) → old ≡ with_top (below_top old) v → Owned (below_top old) s v → AllLoose old
own-loose old s v e o = subst AllLoose (sym e) (each (below_top old).stack o.none)
  where
    each : (vs : List Val) → vs ≡ [] → AllLoose (record old { stack = v ∷ vs })
    each vs f zero x is = subst (λ y. loose old.machine y ≡ true) (same_Some v x is) o.free
    each vs f (suc k) x is = absurd (none-some x (sym (ap (λ us. slice_get us k) f) ∙ is))

-- a value that may stand in a slot still may where what the slot owned is gone
pub keeps-behind : (c : Core) (vs : List Val) (s : ℕ) (v : Val) → may_keep c.machine s v ≡ true
    → may_keep (put_slot (without c vs).machine s Nil) s v ≡ true
keeps-behind c vs s v e =
    ap (λ n. nat_le (top_base c.machine.windows) n || not (leads_open (without c vs).machine v)) (place c.machine.frames)
    ∙ test (nat_le (top_base c.machine.windows) (place_of c.machine.frames s)) e
  where
    place : (fs : List Frame) → place_of (with_slots (slice_set (top_slots fs) s Nil) fs) s ≡ place_of fs s
    place [] = refl
    place (f ∷ fs) = refl

    answer : Option Label → Truth
    answer o = elim o [ None ↦ false | Some l ↦ is_open_label c.machine.windows l ]

    opens : (b : Truth) → leads_open (without c vs).machine v ≡ b → b ≡ true → leads_open c.machine v ≡ true
    opens false f is = absurd (false≢true is)
    opens true f is = by (label_of (store-without c vs) v) refl
      where
        by : (o : Option Label) → label_of (store-without c vs) v ≡ o → leads_open c.machine v ≡ true
        by None g = absurd (false≢true (sym (ap answer g) ∙ f))
        by (Some l) g = elim (label-buried (regions-with c vs) None c.machine.store v l g) [
          | inl gone ↦ absurd (false≢true (sym (ap (is_open_label c.machine.windows) gone) ∙ (sym (ap answer g) ∙ f)))
          | inr old ↦ ap answer old ∙ (sym (ap answer g) ∙ f)
        ]

    shut : (a b : Truth) → (a ≡ true → b ≡ true) → not b ≡ true → not a ≡ true
    shut true true h n = n
    shut true false h n = absurd (false≢true (h refl))
    shut false b h n = refl

    test : (b : Truth) → (b || not (leads_open c.machine v)) ≡ true → (b || not (leads_open (without c vs).machine v)) ≡ true
    test true f = refl
    test false f = shut (leads_open (without c vs).machine v) (leads_open c.machine v)
        (λ is. opens (leads_open (without c vs).machine v) refl is) f

set-twice : (vs : List Val) (s : ℕ) (a b : Val) → slice_set (slice_set vs s a) s b ≡ slice_set vs s b
set-twice [] s a b = refl
set-twice (v ∷ vs) zero a b = refl
set-twice (v ∷ vs) (suc s) a b = ap (λ us. v ∷ us) (set-twice vs s a b)

put-twice : (m : Machine) (s : ℕ) (a b : Val) → put_slot (put_slot m s a) s b ≡ put_slot m s b
put-twice m s a b = ap (λ fs. record m { frames = fs }) (by m.frames)
  where
    by : (fs : List Frame) → with_slots (slice_set (top_slots (with_slots (slice_set (top_slots fs) s a) fs)) s b)
        (with_slots (slice_set (top_slots fs) s a) fs) ≡ with_slots (slice_set (top_slots fs) s b) fs
    by [] = refl
    by (f ∷ fs) = ap (λ vs. record f { slots = vs } ∷ fs) (set-twice f.slots s a b)

-- behind the drop of what the slot owned, and the pop
module _ (old one two : Core) (s : ℕ) (v u : Val) (e : old ≡ with_top (below_top old) v) (o : Owned (below_top old) s v)
    (dropped : one ≡ with_machine old (put_slot (without old (slot_at old.machine s ∷ [])).machine s Nil)) where
  top-is : (x : Val) (xs : List Val) → x ∷ xs ≡ v ∷ [] → (x ≡ v) × (xs ≡ [])
  top-is x xs f = (same_Some x v (ap (λ vs. slice_get vs 0) f), ap (drop-one) f)
    where
      drop-one : List Val → List Val
      drop-one [] = []
      drop-one (y ∷ ys) = ys

  stack-one : one.stack ≡ v ∷ []
  stack-one = ap (λ (c : Core). c.stack) dropped ∙ ap (λ (c : Core). c.stack) e ∙ ap (λ vs. v ∷ vs) o.none

  module _ (popped : one ≡ with_top two u) where
    parts : (u ≡ v) × (two.stack ≡ [])
    parts = top-is u two.stack (sym (ap (λ (c : Core). c.stack) popped) ∙ stack-one)

    machine-two : two.machine ≡ put_slot (without old (slot_at old.machine s ∷ [])).machine s Nil
    machine-two = sym (ap (λ (c : Core). c.machine) popped) ∙ ap (λ (c : Core). c.machine) dropped

    pub own-keeps : may_keep two.machine s u ≡ true
    own-keeps =
        ap (λ m. may_keep m s u) machine-two
        ∙ ap (may_keep (put_slot (without old (slot_at old.machine s ∷ [])).machine s Nil) s) parts.0
        ∙ keeps-behind old (slot_at old.machine s ∷ []) s v o.keeps

    module _ (new : Core) (put : new ≡ with_machine two (put_slot two.machine s u)) where
      -- the machine at its end
      whole : new ≡ record { machine = put_slot (without old (slot_at old.machine s ∷ [])).machine s v; stack = []; printed = old.printed }
      whole =
          put
          ∙ ap (λ m. record { machine = put_slot m s u; stack = two.stack; printed = two.printed }) machine-two
          ∙ ap (λ m. record { machine = m; stack = two.stack; printed = two.printed })
          (put-twice (without old (slot_at old.machine s ∷ [])).machine s Nil u)
          ∙ ap (λ x. record { machine = put_slot (without old (slot_at old.machine s ∷ [])).machine s x; stack = two.stack; printed = two.printed })
          parts.0
          ∙ ap (λ vs. record {
            machine = put_slot (without old (slot_at old.machine s ∷ [])).machine s v;
            stack = vs;
            printed = two.printed;
          }) parts.1
          ∙ ap (λ x. record { machine = put_slot (without old (slot_at old.machine s ∷ [])).machine s v; stack = []; printed = x })
          (sym (ap (λ (c : Core). c.printed) popped) ∙ ap (λ (c : Core). c.printed) dropped)

      pub own-effect : (at : ℕ) → ActIs (free_act empty at (i.Own s)) at old new next.On
      own-effect at =
          subst (λ n. ActIs (free_act empty at (i.Own s)) at old n next.On) (sym whole) (λ go input.
          ap (λ vs. free_act empty at (i.Own s) go vs (record { machine = old.machine; input = input; printed = old.printed }))
          (ap (λ (c : Core). c.stack) e ∙ ap (λ vs. v ∷ vs) o.none))
