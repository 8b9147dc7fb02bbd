-- What the instructions of a step leave that may be refused: a turn of the loop.
use Rattle.std.proofs.Common.{◌≡◌, inl, inr, ℕ, zero, suc, ◌+◌, ◌-◌, ◌<◌, List, [], ◌∷◌, Some, Bool as Truth, true, false, true≢false, drop}
use Rattle.std.proofs.Common.{slice_get, refl, sym, ap, subst, ◌∙◌, arith}
use Rattle.std.proofs.lemmas.List.{drop-drop}
use Rattle.rg_base.proofs.Callers.Lists.{drop-here}
use Rattle.rg_code.specs.declared.op.Op.{Op}
use Rattle.rg_code.specs.declared.op.Op.TheVariants as i
use Rattle.rg_code.specs.Places.{is_mark}
use Rattle.rg_stack.specs.Machine.{Machine}
use Rattle.rg_stack.specs.Refusals.{Manner, Ends, Clears, Settles, Takes, Computes, Prepares, Calls, Chooses, Passes, manner, room_behind, calm_by}
use Rattle.rg_stack.specs.Refusals.{calm}
use Rattle.rg_stack.specs.Refusals.{all_compute, orderly_by, orderly}
use Rattle.rg_stack.specs.Reads.{reads}
use Rattle.rg_stack.proofs.Callers.Order.{calm-mark, orderly-skip}
use Rattle.rg_stack.proofs.Callers.Read.{reads-skip}
use Rattle.rg_stack.proofs.Basics.{and-left, and-right}
use Rattle.rg_machine.specs.Frames.{calls_next}
use Rattle.rg_machine.specs.Keeps.{Asks, GoesOn, GoesTo, Leaves, WantsRoom, asking}
use Rattle.rg_step.specs.Inner.Refusals.{AtStart, Stands}
use Rattle.rg_step.specs.Inner.Refusals.{Asking}

-- whether the code goes on behind an instruction of a manner
abbrev leads_on : Manner → Truth
leads_on Ends = false
leads_on Clears = true
leads_on Settles = true
leads_on Takes = true
leads_on Computes = true
leads_on Prepares = true
leads_on Calls = false
leads_on (Chooses t) = true
leads_on (Passes t) = true

-- what doesn't read doesn't behind its first instruction
reads-rest : (o : Op) (os : List Op) → leads_on (manner o) ≡ true → reads (o ∷ os) ≡ false → reads os ≡ false
reads-rest (i.Mark line) os leads h = absurd (true≢false (sym leads))
reads-rest (i.Jump t) os leads h = absurd (true≢false (sym leads))
reads-rest (i.Call m) os leads h = absurd (true≢false (sym leads))
reads-rest i.Ret os leads h = absurd (true≢false (sym leads))
reads-rest i.RetVoid os leads h = absurd (true≢false (sym leads))
reads-rest i.Halt os leads h = absurd (true≢false (sym leads))
reads-rest i.Read os leads h = absurd (true≢false h)
reads-rest i.More os leads h = absurd (true≢false h)
reads-rest o os leads h = h

reads-asking : (o : Op) (os : List Op) → asking o ≡ true → reads (o ∷ os) ≡ true
reads-asking i.Read os e = refl
reads-asking i.More os e = refl
reads-asking o os e = absurd (true≢false (sym e))

-- where no call follows, it doesn't matter whether there is room
calm-free : (code os : List Op) → calls_next os ≡ false → calm code true os ≡ calm code false os
calm-free code [] e = refl
calm-free code (i.Clear s ∷ os) e = calm-free code os e
calm-free code (i.Call m ∷ os) e = absurd (true≢false e)
calm-free code (o ∷ os) e = refl

pub orderly-free : (code : List Op) (at : ℕ) (os : List Op) → calls_next os ≡ false → orderly code at true os ≡ orderly code at false os
orderly-free code at [] e = refl
orderly-free code at (i.Clear s ∷ os) e = calm-free code os e
orderly-free code at (i.Call m ∷ os) e = absurd (true≢false e)
orderly-free code at (o ∷ os) e = refl

pub first-there : (n : ℕ) (os : List Op) → slice_get (drop n os) 0 ≡ slice_get os n
first-there zero os = refl
first-there (suc n) [] = refl
first-there (suc n) (o ∷ os) = first-there n os

module _ (code : List Op) (start : Machine) (asks : Truth) (at : ℕ) (old new : Machine) where
  on-start : (m : Manner) → GoesOn m old new → old ≡ start
      → orderly_by code at false m (drop (at + 1) code) (calm code (room_behind m false) (drop (at + 1) code))
      (orderly code (at + 1) (room_behind m false) (drop (at + 1) code)) ≡ true
      → (leads_on m ≡ true → asks ≡ false → reads (drop (at + 1) code) ≡ false) → Stands code start asks (at + 1) new
  on-start Ends g same h r = absurd g
  on-start Clears g same h r = inr h
  on-start Settles g same h r = inr h
  on-start Takes g same h r = inr h
  on-start Computes g same h r = inl (record { same = g ∙ same; ordered = h; asked = r refl })
  on-start Prepares g same h r = absurd g
  on-start Calls g same h r = absurd g
  on-start (Chooses t) g same h r = inl (record { same = g ∙ same; ordered = and-right _ _ h; asked = r refl })
  on-start (Passes t) g same h r = inl (record { same = g ∙ same; ordered = and-right _ _ h; asked = r refl })

  on-calm : (m : Manner) → GoesOn m old new → calm_by code false m (calm code (room_behind m false) (drop (at + 1) code)) ≡ true
      → Stands code start asks (at + 1) new
  on-calm Ends g h = absurd g
  on-calm Clears g h = inr h
  on-calm Settles g h = inr h
  on-calm Takes g h = absurd (true≢false (sym h))
  on-calm Computes g h = absurd (true≢false (sym h))
  on-calm Prepares g h = absurd g
  on-calm Calls g h = absurd g
  on-calm (Chooses t) g h = inr (and-right _ _ h)
  on-calm (Passes t) g h = absurd (true≢false (sym h))

  -- to go to an address is no other thing than to go on
  pub to-on : (m : Manner) (to : ℕ) → GoesTo m to old new → GoesOn m old new
  to-on Ends to g = g
  to-on Clears to g = absurd g
  to-on Settles to g = absurd g
  to-on Takes to g = absurd g
  to-on Computes to g = absurd g
  to-on Prepares to g = g
  to-on Calls to g = g
  to-on (Chooses t) to g = g.1
  to-on (Passes t) to g = g.1

  at-mark : (t : ℕ) → is_mark (slice_get code t) ≡ true → Stands code start asks t new
  at-mark t e = inr (calm-mark code false (drop t code) (ap is_mark (first-there t code) ∙ e))

  to-start : (m : Manner) (to : ℕ) → at < to → GoesTo m to old new → old ≡ start
      → orderly_by code at false m (drop (at + 1) code) (calm code (room_behind m false) (drop (at + 1) code))
      (orderly code (at + 1) (room_behind m false) (drop (at + 1) code)) ≡ true
      → (leads_on m ≡ true → asks ≡ false → reads (drop (at + 1) code) ≡ false) → Stands code start asks to new
  to-start Ends to lt g same h r = absurd g
  to-start Clears to lt g same h r = absurd g
  to-start Settles to lt g same h r = absurd g
  to-start Takes to lt g same h r = absurd g
  to-start Computes to lt g same h r = absurd g
  to-start Prepares to lt g same h r = absurd g
  to-start Calls to lt g same h r = absurd g
  to-start (Chooses t) to lt g same h r = at-mark to (ap (λ n. is_mark (slice_get code n)) g.0 ∙ and-left _ _ h)
  to-start (Passes t) to lt g same h r =
      let a : all_compute (to - (at + 1)) (drop (at + 1) code) ≡ true =
      ap (λ n. all_compute (n - (at + 1)) (drop (at + 1) code)) g.0 ∙ and-left _ _ h in
      let sum : at + 1 + (to - (at + 1)) ≡ to = omega (arith, lt) in
      let far : drop (to - (at + 1)) (drop (at + 1) code) ≡ drop to code = drop-drop (to - (at + 1)) (at + 1) code ∙ ap (λ n. drop n code) sum in
      inl (record {
        same = g.1 ∙ same;
        ordered = subst (λ n. orderly code n false (drop to code) ≡ true) sum (subst (λ l. orderly code (at + 1 + (to - (at + 1))) false l ≡ true) far
            (orderly-skip code (to - (at + 1)) (at + 1) (drop (at + 1) code) a (and-right _ _ h)));
        asked = λ e. subst (λ l. reads l ≡ false) far (reads-skip (to - (at + 1)) (drop (at + 1) code) a (r refl e));
      })

  to-calm : (m : Manner) (to : ℕ) → GoesTo m to old new → calm_by code false m (calm code (room_behind m false) (drop (at + 1) code)) ≡ true
      → Stands code start asks to new
  to-calm Ends to g h = absurd g
  to-calm Clears to g h = absurd g
  to-calm Settles to g h = absurd g
  to-calm Takes to g h = absurd g
  to-calm Computes to g h = absurd g
  to-calm Prepares to g h = absurd g
  to-calm Calls to g h = absurd g
  to-calm (Chooses t) to g h = at-mark to (ap (λ n. is_mark (slice_get code n)) g.0 ∙ and-left _ _ h)
  to-calm (Passes t) to g h = absurd (true≢false (sym h))

  leaves-same : (m : Manner) → Leaves m old new → old ≡ start → new ≡ start
  leaves-same Ends g same = absurd g
  leaves-same Clears g same = absurd g
  leaves-same Settles g same = absurd g
  leaves-same Takes g same = g ∙ same
  leaves-same Computes g same = g ∙ same
  leaves-same Prepares g same = g ∙ same
  leaves-same Calls g same = g ∙ same
  leaves-same (Chooses t) g same = absurd g
  leaves-same (Passes t) g same = g ∙ same

  leaves-calm : (m : Manner) (os : List Op) → Leaves m old new → calm_by code false m (calm code (room_behind m false) os) ≡ true → ⊥
  leaves-calm Ends os g h = g
  leaves-calm Clears os g h = g
  leaves-calm Settles os g h = g
  leaves-calm Takes os g h = true≢false (sym h)
  leaves-calm Computes os g h = true≢false (sym h)
  leaves-calm Prepares os g h = true≢false (sym h)
  leaves-calm Calls os g h = true≢false (sym h)
  leaves-calm (Chooses t) os g h = g
  leaves-calm (Passes t) os g h = true≢false (sym h)

  asks-leaves : (m : Manner) → Asks m old new → Leaves m old new
  asks-leaves Ends g = g
  asks-leaves Clears g = g
  asks-leaves Settles g = g
  asks-leaves Takes g = g
  asks-leaves Computes g = g
  asks-leaves Prepares g = absurd g
  asks-leaves Calls g = absurd g
  asks-leaves (Chooses t) g = g
  asks-leaves (Passes t) g = absurd g

  asks-start : (m : Manner) → Asks m old new → old ≡ start → asks ≡ true
      → orderly_by code at false m (drop (at + 1) code) (calm code (room_behind m false) (drop (at + 1) code))
      (orderly code (at + 1) (room_behind m false) (drop (at + 1) code)) ≡ true
      → Stands code start asks (at + 1) new
  asks-start Ends g same a h = absurd g
  asks-start Clears g same a h = absurd g
  asks-start Settles g same a h = absurd g
  asks-start Takes g same a h = inr h
  asks-start Computes g same a h = inl (record { same = g ∙ same; ordered = h; asked = λ e. absurd (true≢false (sym a ∙ e)) })
  asks-start Prepares g same a h = absurd g
  asks-start Calls g same a h = absurd g
  asks-start (Chooses t) g same a h = absurd g
  asks-start (Passes t) g same a h = absurd g

  room-start : (m : Manner) → WantsRoom m old new → old ≡ start → calls_next (drop (at + 1) code) ≡ false
      → orderly_by code at false m (drop (at + 1) code) (calm code (room_behind m false) (drop (at + 1) code))
      (orderly code (at + 1) (room_behind m false) (drop (at + 1) code)) ≡ true
      → (leads_on m ≡ true → asks ≡ false → reads (drop (at + 1) code) ≡ false) → Stands code start asks (at + 1) new
  room-start Ends g same none h r = absurd g
  room-start Clears g same none h r = absurd g
  room-start Settles g same none h r = absurd g
  room-start Takes g same none h r = absurd g
  room-start Computes g same none h r = absurd g
  room-start Prepares g same none h r = inl (record {
    same = g ∙ same;
    ordered = sym (orderly-free code (at + 1) (drop (at + 1) code) none) ∙ h;
    asked = r refl;
  })
  room-start Calls g same none h r = absurd g
  room-start (Chooses t) g same none h r = absurd g
  room-start (Passes t) g same none h r = absurd g

  room-leaves : (m : Manner) → WantsRoom m old new → Leaves m old new
  room-leaves Ends g = g
  room-leaves Clears g = g
  room-leaves Settles g = g
  room-leaves Takes g = absurd g
  room-leaves Computes g = absurd g
  room-leaves Prepares g = g
  room-leaves Calls g = absurd g
  room-leaves (Chooses t) g = g
  room-leaves (Passes t) g = absurd g

  module _ (op : Op) (there : slice_get code at ≡ Some op) where
    ordered-here : AtStart code start asks at old → orderly code at false (op ∷ drop (at + 1) code) ≡ true
    ordered-here a = subst (λ os. orderly code at false os ≡ true) (drop-here code at op there) a.ordered

    reads-here : AtStart code start asks at old → asks ≡ false → reads (op ∷ drop (at + 1) code) ≡ false
    reads-here a e = subst (λ os. reads os ≡ false) (drop-here code at op there) (a.asked e)

    calm-here : calm code false (drop at code) ≡ true → calm code false (op ∷ drop (at + 1) code) ≡ true
    calm-here h = subst (λ os. calm code false os ≡ true) (drop-here code at op there) h

    -- it goes on at the next instruction
    pub stands-on : GoesOn (manner op) old new → Stands code start asks at old → Stands code start asks (at + 1) new
    stands-on g (inl a) = on-start (manner op) g a.same (ordered-here a) (λ leads e. reads-rest op (drop (at + 1) code) leads (reads-here a e))
    stands-on g (inr h) = on-calm (manner op) g (calm-here h)

    -- at an address further on
    pub stands-to : (to : ℕ) → at < to → GoesTo (manner op) to old new → Stands code start asks at old → Stands code start asks to new
    stands-to to lt g (inl a) = to-start (manner op) to lt g a.same (ordered-here a)
        (λ leads e. reads-rest op (drop (at + 1) code) leads (reads-here a e))
    stands-to to lt g (inr h) = to-calm (manner op) to g (calm-here h)

    -- at the next instruction, where the address isn't further on
    pub stands-back : (to : ℕ) → GoesTo (manner op) to old new → Stands code start asks at old → Stands code start asks (at + 1) new
    stands-back to g h = stands-on (to-on (manner op) to g) h

    -- a refusal leaves the machine of the start
    pub stands-left : Leaves (manner op) old new → Stands code start asks at old → new ≡ start
    stands-left g (inl a) = leaves-same (manner op) g a.same
    stands-left g (inr h) = absurd (leaves-calm (manner op) (drop (at + 1) code) g (calm-here h))

    asks-true : (b : Truth) → asks ≡ b → asking op ≡ true → (asks ≡ false → reads (op ∷ drop (at + 1) code) ≡ false) → asks ≡ true
    asks-true true e is r = e
    asks-true false e is r = absurd (true≢false (sym (reads-asking op (drop (at + 1) code) is) ∙ r e))

    -- the input is asked
    pub stands-asking : asking op ≡ true → Asks (manner op) old new → Stands code start asks at old → Asking code start asks at new
    stands-asking is g (inl a) =
        let asked = asks-true asks refl is (reads-here a) in record {
          asked = asked;
          same = leaves-same (manner op) (asks-leaves (manner op) g) a.same;
          stands = asks-start (manner op) g a.same asked (ordered-here a);
        }
    stands-asking is g (inr h) = absurd (leaves-calm (manner op) (drop (at + 1) code) (asks-leaves (manner op) g) (calm-here h))

    -- behind the next number nothing is refused
    pub stands-number : manner op ≡ Takes → Asks (manner op) old new → Stands code start asks at old → calm code false (drop (at + 1) code) ≡ true
    stands-number is g (inl a) =
        let rest = drop (at + 1) code in
        let O : Manner → Type 0 = λ m. orderly_by code at false m rest (calm code (room_behind m false) rest)
        (orderly code (at + 1) (room_behind m false) rest) ≡ true in
        subst O is (ordered-here a)
    stands-number is g (inr h) = absurd (leaves-calm (manner op) (drop (at + 1) code) (asks-leaves (manner op) g) (calm-here h))

    -- there is room, and no call follows
    pub stands-free : WantsRoom (manner op) old new → calls_next (drop (at + 1) code) ≡ false → Stands code start asks at old
        → Stands code start asks (at + 1) new
    stands-free g none (inl a) = room-start (manner op) g a.same none (ordered-here a)
        (λ leads e. reads-rest op (drop (at + 1) code) leads (reads-here a e))
    stands-free g none (inr h) = absurd (leaves-calm (manner op) (drop (at + 1) code) (room-leaves (manner op) g) (calm-here h))

    -- there is none
    pub stands-roomless : WantsRoom (manner op) old new → Stands code start asks at old → new ≡ start
    stands-roomless g h = stands-left (room-leaves (manner op) g) h
