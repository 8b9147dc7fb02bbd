-- One object is made at most by a walk along orderly code: what makes one stands where the heap is still that of the start, and nothing
-- behind it may be refused.
use Rattle.std.proofs.Common.{◌≡◌, ◌<◌, ℕ, inl, inr, List, Bool as Truth, true, false, true≢false, drop, slice_get}
use Rattle.std.proofs.Common.{Option, Some, None, Result, Ok, Err, refl, ap, subst, sym, ◌∙◌}
use Rattle.std.proofs.Common.{◌+◌, ◌-◌, arith}
use Rattle.std.proofs.lemmas.List.{drop-drop}
use Rattle.rg_base.specs.declared.outcome.Outcome.{Outcome}
use Rattle.rg_base.specs.declared.outcome.Outcome.TheVariants as outcome
use Rattle.rg_base.specs.declared.value.Val.{Val}
use Rattle.rg_base.proofs.Callers.Lists.{drop-here}
use Rattle.rg_code.specs.declared.op.Op.{Op}
use Rattle.rg_code.specs.declared.op.Op.TheVariants as i
use Rattle.rg_code.specs.Places.{is_mark}
use Rattle.rg_heap.specs.Parts.{Parts}
use Rattle.rg_stack.specs.Machine.{Machine}
use Rattle.rg_stack.specs.Refusals.{Manner, Ends, Clears, Settles, Takes, Computes, Prepares, Calls, Chooses, Passes, manner, room_behind, calm_by}
use Rattle.rg_stack.specs.Refusals.{Orderly, all_compute, calm, orderly_by, orderly}
use Rattle.rg_stack.proofs.Callers.Order.{calm-mark, orderly-skip}
use Rattle.rg_stack.proofs.Basics.{and-left, and-right}
use Rattle.rg_machine.specs.Frames.{calls_next}
use Rattle.rg_machine.specs.High.{NoneMade}
use Rattle.rg_machine.specs.Makes.{Made, making}
use Rattle.rg_machine.specs.Keeps.{Asks, GoesOn, GoesTo, WantsRoom}
use Rattle.rg_machine.specs.Parts.{Parts as MachineParts, machine_in}
use Rattle.rg_machine.proofs.Callers.High.{none-same, none-then}
use Rattle.rg_step.specs.declared.step.Did.{Did}
use Rattle.rg_step.specs.declared.step.Did.TheVariants as did
use Rattle.rg_step.specs.declared.stopped.Stopped.{Stopped}
use Rattle.rg_step.specs.declared.stopped.Stopped.TheVariants as stopped
use Rattle.rg_step.specs.Inner.High.{Calmed, MadeAtMost, MayMake, OneAtMost, Untouched}
use Rattle.rg_step.specs.Inner.Serving.{answer}
use Rattle.rg_step.specs.States.{Raises}
use Rattle.rg_step.proofs.Walking.Stands.{first-there, orderly-free}

-- How many

-- none more
pub most-none : (old mid new : Parts) → OneAtMost old mid → NoneMade mid new → OneAtMost old new
most-none old mid new (inl n) k = inl (none-then old mid new n k)
most-none old mid new (inr o) k = inr (record { made = k.made ∙ o.made; high = k.high ∙ o.high })

pub most-from : (start old new : Parts) → old ≡ start → OneAtMost old new → OneAtMost start new
most-from start old new same m = subst (λ s. OneAtMost s new) same m

-- Begins and ends

-- a step begins, where nothing is refused behind a change
pub high-begun : (code : List Op) (m : Machine) (start begun : Parts) (at : ℕ) → at ≡ m.at → begun ≡ start → Orderly code m
    → MayMake code start (at + 1) begun
high-begun code m start begun at is same o =
    inl (record { same = same; ordered = subst (λ n. orderly code (n + 1) false (drop (n + 1) code) ≡ true) (sym is) o.here })

-- a walk is over
pub may-most : (code : List Op) (start : Parts) (at : ℕ) (heap : Parts) → MayMake code start at heap → OneAtMost start heap
may-most code start at heap (inl u) = inl (none-same start heap u.same)
may-most code start at heap (inr c) = c.made

-- what is answered
pub answer-raises : (old new : MachineParts) (d : Result Did Stopped) (line : ℕ) (printed : Option Val) → MadeAtMost old.heap new.heap d
    → Raises (answer d line printed) old new
answer-raises old new (Ok did.Goes) line (Some v) h = h
answer-raises old new (Ok did.Goes) line None h = h
answer-raises old new (Ok did.Ends) line (Some v) h = h
answer-raises old new (Ok did.Ends) line None h = h
answer-raises old new (Err (stopped.Trap kind)) line printed h = h
answer-raises old new (Err stopped.InputFault) line printed h = h
answer-raises old new (Err stopped.Memory) line printed h = tt

-- where none is made before or behind
pub raises-none : (result : Outcome) (old mid new : MachineParts) → Raises result old mid → NoneMade mid.heap new.heap → Raises result old new
raises-none outcome.Running old mid new r h = most-none old.heap mid.heap new.heap r h
raises-none (outcome.Printed v) old mid new r h = most-none old.heap mid.heap new.heap r h
raises-none outcome.Done old mid new r h = most-none old.heap mid.heap new.heap r h
raises-none (outcome.Trap kind line) old mid new r h = most-none old.heap mid.heap new.heap r h
raises-none outcome.InputFault old mid new r h = most-none old.heap mid.heap new.heap r h
raises-none outcome.Memory old mid new r h = tt

-- Manners

abbrev takes : Manner → Truth
takes Ends = false
takes Clears = false
takes Settles = false
takes Takes = true
takes Computes = false
takes Prepares = false
takes Calls = false
takes (Chooses t) = false
takes (Passes t) = false

-- what makes an object takes
making-takes : (o : Op) → making o ≡ true → takes (manner o) ≡ true
making-takes (i.New c) e = refl
making-takes (i.NewTmp c) e = refl
making-takes (i.NewIso c m) e = refl
making-takes (i.NewArray c) e = refl
making-takes (i.NewTmpArray c) e = refl
making-takes (i.NewIsoArray c m) e = refl
making-takes o e = absurd (true≢false (sym e))

module _ (old new : Parts) where
  none-made : (m : Manner) → Made m false old new → NoneMade old new
  none-made Ends h = h
  none-made Clears h = h
  none-made Settles h = h
  none-made Takes h = h
  none-made Computes h = none-same old new h
  none-made Prepares h = none-same old new h
  none-made Calls h = h
  none-made (Chooses t) h = none-same old new h
  none-made (Passes t) h = none-same old new h

  one-made : (m : Manner) (makes : Truth) → Made m makes old new → OneAtMost old new
  one-made m true h = inr h
  one-made m false h = inl (none-made m h)

  -- an instruction that doesn't take makes none
  not-made : (m : Manner) (makes : Truth) → (makes ≡ true → takes m ≡ true) → takes m ≡ false → Made m makes old new → Made m false old new
  not-made m true only not h = absurd (true≢false (sym (only refl) ∙ not))
  not-made m false only not h = h

-- Turns

module _ (code : List Op) (start : Parts) (at : ℕ) (old new : MachineParts) where
  abbrev before : Parts
  before = old.heap

  abbrev after : Parts
  after = new.heap

  abbrev was : Machine
  was = machine_in old

  abbrev now : Machine
  now = machine_in new

  abbrev Ordered : Manner → Type 0
  Ordered m = orderly_by code at false m (drop (at + 1) code) (calm code (room_behind m false) (drop (at + 1) code))
      (orderly code (at + 1) (room_behind m false) (drop (at + 1) code)) ≡ true

  abbrev Calm : Manner → Type 0
  Calm m = calm_by code false m (calm code (room_behind m false) (drop (at + 1) code)) ≡ true

  abbrev Only : Manner → Truth → Type 0
  Only m makes = makes ≡ true → takes m ≡ true

  changed : (m : Manner) (makes : Truth) → Made m makes before after → before ≡ start → calm code false (drop (at + 1) code) ≡ true
      → MayMake code start (at + 1) after
  changed m makes h same r = inr (record { calmed = r; made = most-from start before after same (one-made before after m makes h) })

  kept : after ≡ before → before ≡ start → orderly code (at + 1) false (drop (at + 1) code) ≡ true → MayMake code start (at + 1) after
  kept h same r = inl (record { same = h ∙ same; ordered = r })

  settled : NoneMade before after → OneAtMost start before → calm code false (drop (at + 1) code) ≡ true → MayMake code start (at + 1) after
  settled h few r = inr (record { calmed = r; made = most-none start before after few h })

  on-start : (m : Manner) (makes : Truth) → Only m makes → GoesOn m was now → Made m makes before after → before ≡ start → Ordered m
      → MayMake code start (at + 1) after
  on-start Ends b only g h same r = absurd g
  on-start Clears b only g h same r = changed Clears b h same r
  on-start Settles b only g h same r = changed Settles b h same r
  on-start Takes b only g h same r = changed Takes b h same r
  on-start Computes b only g h same r = kept (not-made before after Computes b only refl h) same r
  on-start Prepares b only g h same r = absurd g
  on-start Calls b only g h same r = absurd g
  on-start (Chooses t) b only g h same r = kept (not-made before after (Chooses t) b only refl h) same (and-right _ _ r)
  on-start (Passes t) b only g h same r = kept (not-made before after (Passes t) b only refl h) same (and-right _ _ r)

  on-calm : (m : Manner) (makes : Truth) → Only m makes → GoesOn m was now → Made m makes before after → OneAtMost start before → Calm m
      → MayMake code start (at + 1) after
  on-calm Ends b only g h few r = absurd g
  on-calm Clears b only g h few r = settled (not-made before after Clears b only refl h) few r
  on-calm Settles b only g h few r = settled (not-made before after Settles b only refl h) few r
  on-calm Takes b only g h few r = absurd (true≢false (sym r))
  on-calm Computes b only g h few r = absurd (true≢false (sym r))
  on-calm Prepares b only g h few r = absurd g
  on-calm Calls b only g h few r = absurd g
  on-calm (Chooses t) b only g h few r =
      settled (none-same before after (not-made before after (Chooses t) b only refl h)) few (and-right _ _ r)
  on-calm (Passes t) b only g h few r = absurd (true≢false (sym r))

  -- to go to an address is no other thing than to go on
  to-on : (m : Manner) (to : ℕ) → GoesTo m to was now → GoesOn m was now
  to-on Ends to g = g
  to-on Clears to g = absurd g
  to-on Settles to g = absurd g
  to-on Takes to g = absurd g
  to-on Computes to g = absurd g
  to-on Prepares to g = g
  to-on Calls to g = g
  to-on (Chooses t) to g = g.1
  to-on (Passes t) to g = g.1

  at-mark : (t : ℕ) → is_mark (slice_get code t) ≡ true → OneAtMost start after → MayMake code start t after
  at-mark t e few = inr (record { calmed = calm-mark code false (drop t code) (ap is_mark (first-there t code) ∙ e); made = few })

  to-start : (m : Manner) (makes : Truth) (to : ℕ) → at < to → Only m makes → GoesTo m to was now → Made m makes before after → before ≡ start
      → Ordered m → MayMake code start to after
  to-start Ends b to lt only g h same r = absurd g
  to-start Clears b to lt only g h same r = absurd g
  to-start Settles b to lt only g h same r = absurd g
  to-start Takes b to lt only g h same r = absurd g
  to-start Computes b to lt only g h same r = absurd g
  to-start Prepares b to lt only g h same r = absurd g
  to-start Calls b to lt only g h same r = absurd g
  to-start (Chooses t) b to lt only g h same r =
      at-mark to (ap (λ n. is_mark (slice_get code n)) g.0 ∙ and-left _ _ r)
      (most-from start before after same (one-made before after (Chooses t) b h))
  to-start (Passes t) b to lt only g h same r =
      let a : all_compute (to - (at + 1)) (drop (at + 1) code) ≡ true =
      ap (λ n. all_compute (n - (at + 1)) (drop (at + 1) code)) g.0 ∙ and-left _ _ r in
      let sum : at + 1 + (to - (at + 1)) ≡ to = omega (arith, lt) in
      let far : drop (to - (at + 1)) (drop (at + 1) code) ≡ drop to code = drop-drop (to - (at + 1)) (at + 1) code ∙ ap (λ n. drop n code) sum in
      inl (record {
        same = not-made before after (Passes t) b only refl h ∙ same;
        ordered = subst (λ n. orderly code n false (drop to code) ≡ true) sum (subst (λ l. orderly code (at + 1 + (to - (at + 1))) false l ≡ true) far
            (orderly-skip code (to - (at + 1)) (at + 1) (drop (at + 1) code) a (and-right _ _ r)));
      })

  to-calm : (m : Manner) (makes : Truth) (to : ℕ) → Only m makes → GoesTo m to was now → Made m makes before after → OneAtMost start before → Calm m
      → MayMake code start to after
  to-calm Ends b to only g h few r = absurd g
  to-calm Clears b to only g h few r = absurd g
  to-calm Settles b to only g h few r = absurd g
  to-calm Takes b to only g h few r = absurd g
  to-calm Computes b to only g h few r = absurd g
  to-calm Prepares b to only g h few r = absurd g
  to-calm Calls b to only g h few r = absurd g
  to-calm (Chooses t) b to only g h few r =
      at-mark to (ap (λ n. is_mark (slice_get code n)) g.0 ∙ and-left _ _ r)
      (most-none start before after few (none-same before after (not-made before after (Chooses t) b only refl h)))
  to-calm (Passes t) b to only g h few r = absurd (true≢false (sym r))

  asks-start : (m : Manner) (makes : Truth) → Only m makes → Asks m was now → Made m makes before after → before ≡ start → Ordered m
      → MayMake code start (at + 1) after
  asks-start Ends b only g h same r = absurd g
  asks-start Clears b only g h same r = absurd g
  asks-start Settles b only g h same r = absurd g
  asks-start Takes b only g h same r = changed Takes b h same r
  asks-start Computes b only g h same r = kept (not-made before after Computes b only refl h) same r
  asks-start Prepares b only g h same r = absurd g
  asks-start Calls b only g h same r = absurd g
  asks-start (Chooses t) b only g h same r = absurd g
  asks-start (Passes t) b only g h same r = absurd g

  asks-calm : (m : Manner) → Asks m was now → Calm m → ⊥
  asks-calm Ends g r = g
  asks-calm Clears g r = g
  asks-calm Settles g r = g
  asks-calm Takes g r = true≢false (sym r)
  asks-calm Computes g r = true≢false (sym r)
  asks-calm Prepares g r = g
  asks-calm Calls g r = g
  asks-calm (Chooses t) g r = g
  asks-calm (Passes t) g r = g

  -- there is room, and no call follows
  room-start : (m : Manner) (makes : Truth) → Only m makes → WantsRoom m was now → calls_next (drop (at + 1) code) ≡ false → Made m makes before after
      → before ≡ start → Ordered m → MayMake code start (at + 1) after
  room-start Ends b only g none h same r = absurd g
  room-start Clears b only g none h same r = absurd g
  room-start Settles b only g none h same r = absurd g
  room-start Takes b only g none h same r = absurd g
  room-start Computes b only g none h same r = absurd g
  room-start Prepares b only g none h same r =
      kept (not-made before after Prepares b only refl h) same (sym (orderly-free code (at + 1) (drop (at + 1) code) none) ∙ r)
  room-start Calls b only g none h same r = absurd g
  room-start (Chooses t) b only g none h same r = absurd g
  room-start (Passes t) b only g none h same r = absurd g

  room-calm : (m : Manner) → WantsRoom m was now → Calm m → ⊥
  room-calm Ends g r = g
  room-calm Clears g r = g
  room-calm Settles g r = g
  room-calm Takes g r = g
  room-calm Computes g r = g
  room-calm Prepares g r = true≢false (sym r)
  room-calm Calls g r = g
  room-calm (Chooses t) g r = g
  room-calm (Passes t) g r = g

  -- the walk ends with it
  ends-calm : (m : Manner) (makes : Truth) → Only m makes → Made m makes before after → OneAtMost start before → Calm m → OneAtMost start after
  ends-calm Takes b only h few r = absurd (true≢false (sym r))
  ends-calm Ends b only h few r = most-none start before after few (not-made before after Ends b only refl h)
  ends-calm Clears b only h few r = most-none start before after few (not-made before after Clears b only refl h)
  ends-calm Settles b only h few r = most-none start before after few (not-made before after Settles b only refl h)
  ends-calm Computes b only h few r = absurd (true≢false (sym r))
  ends-calm Prepares b only h few r = absurd (true≢false (sym r))
  ends-calm Calls b only h few r = most-none start before after few (not-made before after Calls b only refl h)
  ends-calm (Chooses t) b only h few r = most-none start before after few (none-same before after (not-made before after (Chooses t) b only refl h))
  ends-calm (Passes t) b only h few r = absurd (true≢false (sym r))

  -- none was made by what ends the walk
  pub high-none : NoneMade before after → MayMake code start at before → OneAtMost start after
  high-none h (inl u) = most-from start before after u.same (inl h)
  high-none h (inr c) = most-none start before after c.made h

  module _ (op : Op) (there : slice_get code at ≡ Some op) where
    ordered-here : Untouched code start at before → Ordered (manner op)
    ordered-here u = subst (λ os. orderly code at false os ≡ true) (drop-here code at op there) u.ordered

    calm-here : Calmed code start at before → Calm (manner op)
    calm-here c = subst (λ os. calm code false os ≡ true) (drop-here code at op there) c.calmed

    -- it goes on at the next instruction
    pub high-on : GoesOn (manner op) was now → Made (manner op) (making op) before after → MayMake code start at before
        → MayMake code start (at + 1) after
    high-on g h (inl u) = on-start (manner op) (making op) (making-takes op) g h u.same (ordered-here u)
    high-on g h (inr c) = on-calm (manner op) (making op) (making-takes op) g h c.made (calm-here c)

    -- at an address further on
    pub high-to : (to : ℕ) → at < to → GoesTo (manner op) to was now → Made (manner op) (making op) before after → MayMake code start at before
        → MayMake code start to after
    high-to to lt g h (inl u) = to-start (manner op) (making op) to lt (making-takes op) g h u.same (ordered-here u)
    high-to to lt g h (inr c) = to-calm (manner op) (making op) to (making-takes op) g h c.made (calm-here c)

    -- at the next instruction, where the address isn't further on
    pub high-back : (to : ℕ) → GoesTo (manner op) to was now → Made (manner op) (making op) before after → MayMake code start at before
        → MayMake code start (at + 1) after
    high-back to g h may = high-on (to-on (manner op) to g) h may

    -- the input is asked
    pub high-asks : Asks (manner op) was now → Made (manner op) (making op) before after → MayMake code start at before
        → MayMake code start (at + 1) after
    high-asks g h (inl u) = asks-start (manner op) (making op) (making-takes op) g h u.same (ordered-here u)
    high-asks g h (inr c) = absurd (asks-calm (manner op) g (calm-here c))

    -- there is room, and no call follows
    pub high-free : WantsRoom (manner op) was now → calls_next (drop (at + 1) code) ≡ false → Made (manner op) (making op) before after
        → MayMake code start at before → MayMake code start (at + 1) after
    high-free g none h (inl u) = room-start (manner op) (making op) (making-takes op) g none h u.same (ordered-here u)
    high-free g none h (inr c) = absurd (room-calm (manner op) g (calm-here c))

    -- the walk ends
    pub high-ends : Made (manner op) (making op) before after → MayMake code start at before → OneAtMost start after
    high-ends h (inl u) = most-from start before after u.same (one-made before after (manner op) (making op) h)
    high-ends h (inr c) = ends-calm (manner op) (making op) (making-takes op) h c.made (calm-here c)
