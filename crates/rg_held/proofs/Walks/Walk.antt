-- A walk beside that over the growing store: no instruction is refused behind a change, so what is taken from its place stays on the stack.
use Rattle.std.proofs.Common.{◌≡◌, ℕ, zero, suc, ◌+◌, ◌-◌, ◌⊎◌, inl, inr, true, false, not, Bool as Truth, List, [], ◌∷◌, Option, Some}
use Rattle.std.proofs.Common.{None, refl, sym, ap, subst, ◌∙◌, arith, drop, slice_get}
use Rattle.std.proofs.lemmas.Option.{same_Some}
use Rattle.std.specs.Prelude.{◌||◌, if◌then◌else◌}
use Rattle.rg_base.specs.declared.value.Val.{Val}
use Rattle.rg_code.specs.declared.op.Op.{Op}
use Rattle.rg_code.specs.declared.op.Op.TheVariants as i
use Rattle.rg_code.specs.Code.{Code}
use Rattle.rg_code.specs.Places.{is_mark}
use Rattle.rg_stack.specs.Effects.{Walked, Stops, Returns, Traps, Stuck, act}
use Rattle.rg_stack.specs.Tops.{Work}
use Rattle.rg_stack.specs.Needs.{is_empty, needs}
use Rattle.rg_stack.specs.Given.{given_walk}
use Rattle.rg_stack.specs.Refusals.{Manner, Ends, Clears, Settles, Takes, Computes, Prepares, Calls, Chooses, Passes, manner, room_behind, calm_by}
use Rattle.rg_stack.specs.Refusals.{calm, computes, all_compute, orderly_by, orderly}
use Rattle.rg_stack.proofs.Basics.{none-some, and-left, and-right}
use Rattle.rg_stack.proofs.Callers.Less.{Less}
use Rattle.rg_held.specs.Frees.{free_act, free_walk, free_given_walk}
use Rattle.rg_held.specs.Ends.{Match, SameEnd}
use Rattle.rg_held.specs.Laws.{owners_of, may_follow, taken_behind, goes_on, skipped, GoesTo, InOrder, WalksSame}
use Rattle.rg_held.proofs.Lists.{off}
use Rattle.rg_held.proofs.Acts.Easy.{stop-same}
use Rattle.rg_held.proofs.Acts.Each.{act-same}
use Rattle.rg_held.proofs.Callers.Need.{needs-same}
use Rattle.rg_held.proofs.Walks.Less.{Test, tested_walk, tested-given, walk-less}

stuck-same : (x : Walked) → SameEnd x Stuck
stuck-same (Stops at w) = tt
stuck-same (Returns back stack w) = tt
stuck-same (Traps t) = tt
stuck-same Stuck = tt

mark-there : (o : Option Op) → is_mark o ≡ true → (line : ℕ) × (o ≡ Some (i.Mark line))
mark-there None e = off e
mark-there (Some (i.Mark line)) e = (line, refl)
mark-there (Some o) e = off e

drop-get : {A : Type 0} (xs : List A) (n j : ℕ) → slice_get (drop n xs) j ≡ slice_get xs (n + j)
drop-get xs zero j = let e : j ≡ 0 + j = omega arith in ap (slice_get xs) e
drop-get [] (suc n) j = refl
drop-get (x ∷ xs) (suc n) j = let e : suc (n + j) ≡ suc n + j = omega arith in drop-get xs n j ∙ ap (slice_get (x ∷ xs)) e

pub drop-next : {A : Type 0} (xs : List A) (n : ℕ) (o : A) (os : List A) → drop n xs ≡ o ∷ os → drop (n + 1) xs ≡ os
drop-next [] zero o os e = none-some o (ap (λ l. slice_get l 0) e)
drop-next [] (suc n) o os e = none-some o (ap (λ l. slice_get l 0) e)
drop-next (x ∷ xs) zero o os e = ap (λ l. drop 1 l) e
drop-next (x ∷ xs) (suc n) o os e = let k : suc n + 1 ≡ suc (n + 1) = omega arith in ap (λ j. drop j (x ∷ xs)) k ∙ drop-next xs n o os e

-- what an instruction of a manner leaves in front
record Turn (code : List Op) (at : ℕ) (room taken : Truth) (m : Manner) (os : List Op) : Type 0 where
  allowed : (may_follow m || not taken) ≡ true
  on : goes_on m ≡ true → InOrder code (at + 1) (room_behind m room) (taken_behind m taken) os
  to : goes_on m ≡ true → (skipped at m ≡ 0) ⊎ (((taken_behind m taken ≡ false) × (all_compute (skipped at m) os ≡ true))
      ⊎ ((t : ℕ) × (skipped at m ≡ t - (at + 1)) × (is_mark (slice_get code t) ≡ true)))

first-turn : (code : List Op) (at : ℕ) (room : Truth) (m : Manner) (os : List Op)
    → orderly_by code at room m os (calm code (room_behind m room) os) (orderly code (at + 1) (room_behind m room) os) ≡ true
    → Turn code at room false m os
first-turn code at room Ends os h = record { allowed = refl; on = λ e. off e; to = λ e. off e }
first-turn code at room Clears os h = record { allowed = refl; on = λ e. h; to = λ e. inl refl }
first-turn code at room Settles os h = record { allowed = refl; on = λ e. h; to = λ e. inl refl }
first-turn code at room Takes os h = record { allowed = refl; on = λ e. h; to = λ e. inl refl }
first-turn code at room Computes os h = record { allowed = refl; on = λ e. h; to = λ e. inl refl }
first-turn code at room Prepares os h = record { allowed = refl; on = λ e. h; to = λ e. inl refl }
first-turn code at room Calls os h = record { allowed = refl; on = λ e. off e; to = λ e. off e }
first-turn code at room (Chooses t) os h = record {
  allowed = refl;
  on = λ e. and-right (is_mark (slice_get code t)) (orderly code (at + 1) false os) h;
  to = λ e. inr (inr (t, refl, and-left (is_mark (slice_get code t)) (orderly code (at + 1) false os) h));
}
first-turn code at room (Passes t) os h = record {
  allowed = refl;
  on = λ e. and-right (all_compute (t - (at + 1)) os) (orderly code (at + 1) false os) h;
  to = λ e. inr (inl (refl, and-left (all_compute (t - (at + 1)) os) (orderly code (at + 1) false os) h));
}

later-turn : (code : List Op) (at : ℕ) (room : Truth) (m : Manner) (os : List Op) → calm_by code room m (calm code (room_behind m room) os) ≡ true
    → Turn code at room true m os
later-turn code at room Ends os h = record { allowed = refl; on = λ e. off e; to = λ e. off e }
later-turn code at room Clears os h = record { allowed = refl; on = λ e. h; to = λ e. inl refl }
later-turn code at room Settles os h = record { allowed = refl; on = λ e. h; to = λ e. inl refl }
later-turn code at room Takes os h = off h
later-turn code at room Computes os h = off h
later-turn code at room Prepares os h = off h
later-turn code at room Calls os h = record { allowed = refl; on = λ e. off e; to = λ e. off e }
later-turn code at room (Chooses t) os h = record {
  allowed = refl;
  on = λ e. and-right (is_mark (slice_get code t)) (calm code false os) h;
  to = λ e. inr (inr (t, refl, and-left (is_mark (slice_get code t)) (calm code false os) h));
}
later-turn code at room (Passes t) os h = off h

turn : (code : List Op) (at : ℕ) (room taken : Truth) (o : Op) (os : List Op) → InOrder code at room taken (o ∷ os)
    → Turn code at room taken (manner o) os
turn code at room true o os h = later-turn code at room (manner o) os h
turn code at room false o os h = first-turn code at room (manner o) os h

-- what computes is passed over
passed : (code : List Op) (at : ℕ) (room : Truth) (m : Manner) (os : List Op) (c r : Truth) → computes m ≡ true
    → orderly_by code at room m os c r ≡ true → r ≡ true
passed code at room Ends os c r e h = off e
passed code at room Clears os c r e h = off e
passed code at room Settles os c r e h = off e
passed code at room Takes os c r e h = off e
passed code at room Computes os c r e h = h
passed code at room Prepares os c r e h = off e
passed code at room Calls os c r e h = off e
passed code at room (Chooses t) os c r e h = off e
passed code at room (Passes t) os c r e h = and-right (all_compute (t - (at + 1)) os) r h

-- each instruction that is given what it needs over the growing store passes the test in the machine that frees
abbrev pub PassesTest : Test → Code → Type 0
PassesTest test code = (o : Op) (taken : Truth) (stack : List Val) (u w : Work) → needs code o stack w.machine ≡ true
    → needs code o stack u.machine ≡ true → Match (owners_of taken stack) u w stack → test o stack u.machine ≡ true

-- where a walk stands
abbrev Ahead : (code : List Op) → (at : ℕ) → (room taken : Truth) → (skip : ℕ) → List Op → Type 0
Ahead code at room taken skip os = ((skip ≡ 0) × InOrder code at room taken os)
    ⊎ ((taken ≡ false) × ((all_compute skip os ≡ true) × (orderly code at room os ≡ true)))

module _ (code : Code) (test : Test) (passes : PassesTest test code) where
  -- a walk to a mark
  mark-same : (line : ℕ) (os : List Op) (at skip : ℕ) (taken : Truth) (stack : List Val) (u w : Work)
      → slice_get os skip ≡ Some (i.Mark line) → Match (owners_of taken stack) u w stack
      → SameEnd (tested_walk test code os at skip stack u) (given_walk code os at skip stack w)
  mark-same line [] at skip taken stack u w e m = none-some (i.Mark line) e
  mark-same line (o ∷ os) at (suc k) taken stack u w e m = mark-same line os (at + 1) k taken stack u w e m
  mark-same line (o ∷ os) at zero taken stack u w e m =
      subst (λ o. SameEnd (tested_walk test code (o ∷ os) at 0 stack u) (given_walk code (o ∷ os) at 0 stack w)) (sym (same_Some o (i.Mark line) e))
      (by (is_empty stack) refl)
    where
      by : (b : Truth) → is_empty stack ≡ b
          → SameEnd (if b then (if test (i.Mark line) stack u.machine then Stops at u else Stuck) else Stuck) (if b then Stops at w else Stuck)
      by true h = subst (λ t. SameEnd (if t then Stops at u else Stuck) (Stops at w)) (sym (passes (i.Mark line) taken stack u w h h m))
          (refl, stop-same at taken stack u w h m)
      by false h = tt

  -- an instruction, from which the walk goes on as is known
  act-by : (o : Op) (os : List Op) (at : ℕ) (room taken : Truth) (stack : List Val) (u w : Work) → drop (at + 1) code.ops ≡ os
      → InOrder code.ops at room taken (o ∷ os) → Match (owners_of taken stack) u w stack
      → ((r t : Truth) (k : ℕ) (st : List Val) (x y : Work) → Ahead code.ops (at + 1) r t k os → Match (owners_of t st) x y st
      → SameEnd (tested_walk test code os (at + 1) k st x) (given_walk code os (at + 1) k st y))
      → SameEnd (tested_walk test code (o ∷ os) at 0 stack u) (given_walk code (o ∷ os) at 0 stack w)
  act-by o os at room taken stack u w here h m rest = by (needs code o stack w.machine) refl
    where
      r : Truth
      r = room_behind (manner o) room

      behind : Truth
      behind = taken_behind (manner o) taken

      t : Turn code.ops at room taken (manner o) os
      t = turn code.ops at room taken o os h

      on : goes_on (manner o) ≡ true → GoesTo 0 behind (tested_walk test code os (at + 1)) (given_walk code os (at + 1))
      on e st x y = rest r behind 0 st x y (inl (refl, t.on e))

      orderly-if : (b : Truth) → b ≡ false → InOrder code.ops (at + 1) r b os → orderly code.ops (at + 1) r os ≡ true
      orderly-if false e i = i
      orderly-if true e i = off (sym e)

      far : (k j : ℕ) → k ≡ j - (at + 1) → (line : ℕ) → slice_get code.ops j ≡ Some (i.Mark line) → (k ≡ 0) ⊎ (slice_get os k ≡ Some (i.Mark line))
      far zero j e line is = inl refl
      far (suc k) j e line is = inr (ap (λ l. slice_get l (suc k)) (sym here) ∙ drop-get code.ops (at + 1) (suc k)
          ∙ ap (slice_get code.ops) (omega (arith, e)) ∙ is)

      to-by : goes_on (manner o) ≡ true → (k : ℕ) → (k ≡ 0) ⊎ (((behind ≡ false) × (all_compute k os ≡ true))
          ⊎ ((j : ℕ) × (k ≡ j - (at + 1)) × (is_mark (slice_get code.ops j) ≡ true)))
          → GoesTo k behind (tested_walk test code os (at + 1)) (given_walk code os (at + 1))
      to-by e k (inl z) st x y n = rest r behind k st x y (inl (z, t.on e)) n
      to-by e k (inr (inl q)) st x y n = rest r behind k st x y (inr (q.0, (q.1, orderly-if behind q.0 (t.on e)))) n
      to-by e k (inr (inr q)) st x y n =
          let mark = mark-there (slice_get code.ops q.0) q.2 in
          elim (far k q.0 q.1 mark.0 mark.1) [
            | inl z ↦ rest r behind k st x y (inl (z, t.on e)) n
            | inr is ↦ mark-same mark.0 os (at + 1) k behind st x y is n
          ]

      by : (b : Truth) → needs code o stack w.machine ≡ b → SameEnd (tested_walk test code (o ∷ os) at 0 stack u)
          (if b then act code at o (given_walk code os (at + 1)) stack w else Stuck)
      by false n = stuck-same (tested_walk test code (o ∷ os) at 0 stack u)
      by true n =
          let go = tested_walk test code os (at + 1) in
          let given = needs-same code o (owners_of taken stack) stack u w m n in
          let done = act code at o (given_walk code os (at + 1)) stack w in
          subst (λ b. SameEnd (if b then (if test o stack u.machine then free_act code at o go stack u else Stuck) else Stuck) done) (sym given)
          (subst (λ b. SameEnd (if b then free_act code at o go stack u else Stuck) done) (sym (passes o taken stack u w n given m))
          (act-same o code at go (given_walk code os (at + 1)) taken stack u w t.allowed n m on
          (λ e. to-by e (skipped at (manner o)) (t.to e))))

  walk-same : (os : List Op) (at : ℕ) (room taken : Truth) (skip : ℕ) (stack : List Val) (u w : Work) → drop at code.ops ≡ os
      → Ahead code.ops at room taken skip os → Match (owners_of taken stack) u w stack
      → SameEnd (tested_walk test code os at skip stack u) (given_walk code os at skip stack w)
  walk-same [] at room taken skip stack u w here ahead m = tt
  walk-same (o ∷ os) at room taken (suc k) stack u w here (inl h) m = absurd (let e = h.0 in omega (arith, e))
  walk-same (o ∷ os) at room taken (suc k) stack u w here (inr h) m =
      let first = and-left (computes (manner o)) (all_compute k os) h.1.0 in
      walk-same os (at + 1) (room_behind (manner o) room) taken k stack u w (drop-next code.ops at o os here)
      (inr (
        h.0,
        (
          and-right (computes (manner o)) (all_compute k os) h.1.0,
          passed code.ops at room (manner o) os
              (calm code.ops (room_behind (manner o) room) os) (orderly code.ops (at + 1) (room_behind (manner o) room) os) first h.1.1,
        ),
      )) m
  walk-same (o ∷ os) at room taken zero stack u w here ahead m =
      act-by o os at room taken stack u w (drop-next code.ops at o os here) (in-order ahead) m
      (λ r t k st x y. walk-same os (at + 1) r t k st x y (drop-next code.ops at o os here))
    where
      in-order : Ahead code.ops at room taken zero (o ∷ os) → InOrder code.ops at room taken (o ∷ os)
      in-order (inl h) = h.1
      in-order (inr h) = subst (λ t. InOrder code.ops at room t (o ∷ os)) (sym h.0) h.1.1

less-end : (x y z : Walked) → Less x y → SameEnd x z → SameEnd y z
less-end x y z (inr same) h = subst (λ q. SameEnd q z) same h
less-end x y z (inl stuck) h = by z (subst (λ q. SameEnd q z) stuck h)
  where
    by : (z : Walked) → SameEnd Stuck z → SameEnd y z
    by (Stops at w) h = absurd h
    by (Returns back stack w) h = absurd h
    by (Traps t) h = absurd h
    by Stuck h = stuck-same y

-- a walk in which each instruction is given what it needs, over the growing store, and passes a test in the machine that frees
pub tested-walks-same : (code : Code) (test : Test) → PassesTest test code → (at : ℕ) (room taken : Truth) (stack : List Val) (u w : Work)
    → InOrder code.ops at room taken (drop at code.ops) → Match (owners_of taken stack) u w stack
    → SameEnd (tested_walk test code (drop at code.ops) at 0 stack u) (given_walk code (drop at code.ops) at 0 stack w)
tested-walks-same code test passes at room taken stack u w h m =
    walk-same code test passes (drop at code.ops) at room taken 0 stack u w refl (inl (refl, h)) m

-- where each instruction over the growing store is given what it needs, it is so in the machine that frees
pub given-walks-same : (code : Code) (at : ℕ) (room taken : Truth) (stack : List Val) (u w : Work) → InOrder code.ops at room taken (drop at code.ops)
    → Match (owners_of taken stack) u w stack
    → SameEnd (free_given_walk code (drop at code.ops) at 0 stack u) (given_walk code (drop at code.ops) at 0 stack w)
given-walks-same code at room taken stack u w h m =
    let always : Test = λ o st n. true in
    less-end (tested_walk always code (drop at code.ops) at 0 stack u) (free_given_walk code (drop at code.ops) at 0 stack u)
    (given_walk code (drop at code.ops) at 0 stack w) (tested-given always code (drop at code.ops) at 0 stack u)
    (tested-walks-same code always (λ o taken st x y n given m. refl) at room taken stack u w h m)

pub walks-same : WalksSame
walks-same code at room taken stack u w h m =
    less-end (free_given_walk code (drop at code.ops) at 0 stack u) (free_walk code (drop at code.ops) at 0 stack u)
    (given_walk code (drop at code.ops) at 0 stack w) (walk-less code (drop at code.ops) at 0 stack u)
    (given-walks-same code at room taken stack u w h m)
