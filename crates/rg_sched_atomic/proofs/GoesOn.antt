-- The lowest-numbered behaviour that hasn't ended can begin or make a step.
use Rattle.std.proofs.Common.{◌≡◌, ℕ, zero, ◌<◌, ◌⊎◌, inl, inr, Bool, true, false, not, ◌||◌, List, [], ◌∷◌, ◌++◌, length, get_or, set, Option, Some}
use Rattle.std.proofs.Common.{None}
use Rattle.std.proofs.Common.{slice_get, suc, refl, sym, ap, ◌∙◌, subst, arith}
use Rattle.std.specs.Prelude.{slice_index, if◌then◌else◌}
use Rattle.std.specs.List.{range_with_len}
use Rattle.std.proofs.lemmas.List.FromFn.{length-range_with_len, get_or-range_with_len}
use Rattle.std.proofs.lemmas.List.Sums.{list_all-from_AllPass}
use Rattle.rg_tree.specs.Tree.{Class}
use Rattle.rg_rules.specs.Runs.{Ending, Running, Done, Stopped, Ran}
use Rattle.rg_plan.specs.Plans.{Turn as Behaviour}
use Rattle.rg_sched_atomic.specs.Behaviours.{share, is_over, has_ended}
use Rattle.rg_sched_atomic.specs.Settings.{Setting}
use Rattle.rg_sched_atomic.specs.Atomic.{World}
use Rattle.rg_sched_atomic.specs.Events.{may_begin, begins, event_by, event_of, event}
use Rattle.rg_sched_atomic.proofs.Worlds.{zero-add}

there_is : {X : Type 0} → (xs : List X) (i : ℕ) → i < length xs → slice_get xs i ≡ None → ⊥
there_is [] i l e = omega (arith, l)
there_is (x ∷ xs) zero l e = cc
there_is (x ∷ xs) (suc i) l e = there_is xs i (omega (arith, l)) e

-- where each lower-numbered one has ended, a behaviour may begin
may : (bs : List Behaviour) (runs : List (Option Ran)) (i : ℕ) → ((k : ℕ) → k < i → has_ended (get_or runs k None) ≡ true) →
    may_begin bs runs i ≡ true
may bs runs i ended =
    let test : ℕ → Bool = λ k. not (share bs i k) || has_ended (get_or runs k None) in
    list_all-from_AllPass test (range_with_len 0 i)
    (λ k d l. let below : k < i = omega (arith, l, length-range_with_len 0 i) in
    subst (λ j. test j ≡ true) (sym (get_or-range_with_len 0 i k d below ∙ zero-add k)) (second (not (share bs i k)) _ (ended k below)))
  where
    second : (a b : Bool) → b ≡ true → (a || b) ≡ true
    second true b e = refl
    second false b e = e

-- a behaviour began, or made a step
abbrev Goes : (before : World) → (number : ℕ) → World → Type 0
Goes w i u = (u.began ≡ w.began ++ i ∷ []) ⊎ (u.turns ≡ set w.turns i (suc (slice_index w.turns i)))

pub goes_on : (classes : List Class) (s : Setting) (w : World) (i : ℕ) → i < length s.behaviours → has_ended (get_or w.told.runs i None) ≡ false
    → ((k : ℕ) → k < i → has_ended (get_or w.told.runs k None) ≡ true)
    → ((event classes s.behaviours i w).began ≡ w.began ++ i ∷ [])
    ⊎ ((event classes s.behaviours i w).turns ≡ set w.turns i (suc (slice_index w.turns i)))
goes_on classes s w i l on lower = by (slice_get s.behaviours i) (get_or w.told.runs i None) refl refl
  where
    if_may : (t : Bool) (b : Behaviour) → t ≡ true → Goes w i (if t then begins classes i b w else w)
    if_may true b e = inl refl
    if_may false b e = cc

    if_runs : (e : Ending) (b : Behaviour) (r : Ran) → is_over e ≡ false → Goes w i (event_by classes i b r e w)
    if_runs Running b r h = inr refl
    if_runs Done b r h = cc
    if_runs (Stopped kind line) b r h = cc

    by : (o : Option Behaviour) (run : Option Ran) → slice_get s.behaviours i ≡ o → get_or w.told.runs i None ≡ run
        → Goes w i (event_of classes s.behaviours i o run w)
    by None run there told = absurd (there_is s.behaviours i l there)
    by (Some b) None there told = if_may (may_begin s.behaviours w.told.runs i) b (may s.behaviours w.told.runs i lower)
    by (Some b) (Some r) there told = if_runs r.ending b r (sym (ap has_ended told) ∙ on)
