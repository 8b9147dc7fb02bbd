-- What a world shows behind a run of one behaviour that is told anew.
use Rattle.std.proofs.Common.{◌≡◌, ◌≢◌, ℕ, zero, suc, ◌<◌, ◌⊎◌, inl, inr, true, List, [], ◌∷◌, length, get_or, set, Option, Some, None, slice_get, unwrap_or, option_map}
use Rattle.std.proofs.Common.{refl, sym, ap, ◌∙◌, subst, arith}
use Rattle.std.specs.Prelude.{slice_index}
use Rattle.std.proofs.lemmas.List.{length-set, get_or-set_same, get_or-set_other}
use Rattle.std.proofs.lemmas.Option.{slice_get_within}
use Rattle.rg_tree.specs.Tree.{Tree}
use Rattle.rg_rules.specs.Types.{fields_of}
use Rattle.rg_rules.specs.Runs.{Running, Ran}
use Rattle.rg_code.specs.Code.{Code}
use Rattle.rg_plan.specs.Plans.{Turn as Behaviour}
use Rattle.rg_sched_atomic.specs.Contents.{Content, put, left_by}
use Rattle.rg_sched_atomic.specs.Behaviours.{is_over, has_ended}
use Rattle.rg_sched_atomic.specs.declared.phase.Phase.{Phase}
use Rattle.rg_sched_atomic.specs.declared.phase.Phase.TheVariants as phase
use Rattle.rg_sched_atomic.specs.Atomic.{tell, World}
use Rattle.rg_sched_atomic.specs.Laws.{all_ended}
use Rattle.rg_world.specs.declared.progress.Progress.{Progress}
use Rattle.rg_world.specs.declared.progress.Standing.{Standing}
use Rattle.rg_world.specs.declared.progress.Standing.TheVariants as stands
use Rattle.rg_step.specs.Stepping.{Stepping}
use Rattle.rg_world.specs.Standing.{RunsAs, StandsAs, IsProgress, phase_in}
use Rattle.rg_world.specs.Worlds.{WorldIn, Shows}
use Rattle.rg_world.specs.Inner.Steps.{is_ended, ended_in, all_ended_in, waits_so, is_waiting, runs_so, is_running}
use Rattle.rg_world.proofs.Lists.{get-same, get-other, same_or_not, all-alike}

some_is : {A : Type 0} → (a b : A) → Some a ≡ Some b → a ≡ b
some_is a b e = ap (λ o. unwrap_or o a) e

pub told-again : (t : Tree) (code : Code) (m : WorldIn) (w : World) (i : ℕ) (old new : Progress) (b : Behaviour) (r : Ran) (cs : List Content)
    (began turns : List ℕ) → Shows t code m w → slice_get m.progress i ≡ Some old → IsProgress t code (Some r) (slice_index turns i) new
    → ((j : ℕ) → j ≢ i → slice_index turns j ≡ slice_index w.turns j) → length turns ≡ length w.turns
    → cs ≡ put b.cowns (left_by (fields_of t.classes b.class) r.state r.ending b.cowns) w.told.contents
    → Shows t code (record { progress = set m.progress i new; contents = cs; began = began })
    (record { told = tell t.classes i b r w.told; began = began; turns = turns })
told-again t code m w i old new b r cs began turns h there new-is others same contents = record {
  many = length-set m.progress i new ∙ h.many ∙ sym (length-set w.told.runs i (Some r));
  turns = same ∙ h.turns ∙ sym (length-set w.told.runs i (Some r));
  each = λ j p at. by j p at (same_or_not j i);
  contents = contents;
  began = refl;
}
  where
    within : i < length m.progress
    within = slice_get_within m.progress i old there

    run : get_or (set w.told.runs i (Some r)) i None ≡ Some r
    run = get_or-set_same w.told.runs i (Some r) None (subst (λ n. i < n) h.many within)

    by : (j : ℕ) (p : Progress) → slice_get (set m.progress i new) j ≡ Some p → (j ≡ i) ⊎ (j ≢ i)
        → IsProgress t code (get_or (set w.told.runs i (Some r)) j None) (slice_index turns j) p
    by j p at (inl e) =
        let here : slice_get (set m.progress i new) i ≡ Some p = ap (slice_get (set m.progress i new)) (sym e) ∙ at in
        let is : new ≡ p = some_is new p (sym (get-same m.progress i new within) ∙ here) in
        subst (λ k. IsProgress t code (get_or (set w.told.runs i (Some r)) k None) (slice_index turns k) p) (sym e)
        (subst (λ o. IsProgress t code o (slice_index turns i) p) (sym run)
        (subst (λ q. IsProgress t code (Some r) (slice_index turns i) q) is new-is))
    by j p at (inr d) =
        subst (λ o. IsProgress t code o (slice_index turns j) p) (sym (get_or-set_other w.told.runs i j (Some r) None d))
        (subst (λ n. IsProgress t code (get_or w.told.runs j None) n p) (sym (others j d))
        (h.each j p (sym (get-other m.progress i j new d) ∙ at)))

-- How behaviours stand

pub waiting-is : (o : Option Progress) → is_waiting o ≡ true → (q : Progress) × (o ≡ Some q) × (q.standing ≡ stands.Waiting)
waiting-is None e = absurd (cc)
waiting-is (Some q) e = (q, refl, by q.standing e)
  where
    by : (s : Standing) → waits_so s ≡ true → s ≡ stands.Waiting
    by stands.Waiting e = refl
    by (stands.Running s) e = absurd (cc)
    by stands.Done e = absurd (cc)
    by (stands.Trap kind line) e = absurd (cc)

pub running-is : (o : Option Progress) → is_running o ≡ true → (q : Progress) × (o ≡ Some q) × (runs_so q.standing ≡ true)
running-is None e = absurd (cc)
running-is (Some q) e = (q, refl, e)

-- a running behaviour has a run that is running
pub runs-as : (t : Tree) (code : Code) (o : Option Ran) (s : Standing) → runs_so s ≡ true → StandsAs t code o s
    → (r : Ran) × (o ≡ Some r) × (r.ending ≡ Running)
runs-as t code o stands.Waiting e h = absurd (cc)
runs-as t code o (stands.Running s) e h = (h.0, h.1, h.2.ending)
runs-as t code o stands.Done e h = absurd (cc)
runs-as t code o (stands.Trap kind line) e h = absurd (cc)

-- whether a behaviour has ended is what is told of it
ended-as : (t : Tree) (code : Code) (o : Option Ran) (s : Standing) → StandsAs t code o s → is_ended s ≡ has_ended o
ended-as t code o stands.Waiting h = ap has_ended (sym h)
ended-as t code o (stands.Running s) h = sym (ap has_ended h.1 ∙ ap is_over h.2.ending)
ended-as t code o stands.Done h = sym (ap has_ended h.1 ∙ ap is_over h.2)
ended-as t code o (stands.Trap kind line) h = sym (ap has_ended h.1 ∙ ap is_over h.2)

none-past : {X : Type 0} → (xs : List (Option X)) (i : ℕ) → (i < length xs → ⊥) → get_or xs i None ≡ None
none-past [] i out = refl
none-past (x ∷ xs) zero out = absurd (out (omega arith))
none-past (x ∷ xs) (suc i) out = none-past xs i (λ l. out (omega (arith, l)))

missing-past : {X : Type 0} → (xs : List X) (i : ℕ) → slice_get xs i ≡ None → i < length xs → ⊥
missing-past [] i e l = omega (arith, l)
missing-past (x ∷ xs) zero e l = cc
missing-past (x ∷ xs) (suc i) e l = missing-past xs i e (omega (arith, l))

ended-same : (t : Tree) (code : Code) (m : WorldIn) (w : World) → Shows t code m w → (k : ℕ)
    → ended_in (slice_get m.progress k) ≡ has_ended (get_or w.told.runs k None)
ended-same t code m w h k = by (slice_get m.progress k) refl
  where
    by : (o : Option Progress) → slice_get m.progress k ≡ o → ended_in o ≡ has_ended (get_or w.told.runs k None)
    by None e = ap has_ended (sym (none-past w.told.runs k (λ l. missing-past m.progress k e (subst (λ n. k < n) (sym h.many) l))))
    by (Some p) e = ended-as t code (get_or w.told.runs k None) p.standing (h.each k p e).standing

-- so have all of some
pub all-ended-same : (t : Tree) (code : Code) (m : WorldIn) (w : World) (ks : List ℕ) → Shows t code m w
    → all_ended_in m.progress ks ≡ all_ended w.told.runs ks
all-ended-same t code m w ks h =
    all-alike (λ k. ended_in (slice_get m.progress k)) (λ k. has_ended (get_or w.told.runs k None)) ks (ended-same t code m w h)

-- How a behaviour stands, by its phase

abbrev phase_at : Option Progress → Option Phase
phase_at o = option_map (λ (p : Progress). phase_in p.standing) o

pub phase-waits : (o : Option Progress) → phase_at o ≡ Some phase.Waiting → is_waiting o ≡ true
phase-waits None e = absurd (cc)
phase-waits (Some q) e = by q.standing (some_is _ _ e)
  where
    by : (s : Standing) → phase_in s ≡ phase.Waiting → waits_so s ≡ true
    by stands.Waiting e = refl
    by (stands.Running s) e = absurd (cc)
    by stands.Done e = absurd (cc)
    by (stands.Trap kind line) e = absurd (cc)

pub phase-runs : (o : Option Progress) → phase_at o ≡ Some phase.Running → is_running o ≡ true
phase-runs None e = absurd (cc)
phase-runs (Some q) e = by q.standing (some_is _ _ e)
  where
    by : (s : Standing) → phase_in s ≡ phase.Running → runs_so s ≡ true
    by stands.Waiting e = absurd (cc)
    by (stands.Running s) e = refl
    by stands.Done e = absurd (cc)
    by (stands.Trap kind line) e = absurd (cc)

-- a phase of one that has ended
abbrev pub IsEnd : Phase → Type 0
IsEnd phase.Waiting = ⊥
IsEnd phase.Running = ⊥
IsEnd phase.Done = Unit {0}
IsEnd (phase.Trap kind line) = Unit {0}

pub phase-ends : (o : Option Progress) (ph : Phase) → phase_at o ≡ Some ph → IsEnd ph → (q : Progress) × (o ≡ Some q) × (is_ended q.standing ≡ true)
phase-ends None ph e end = absurd (cc)
phase-ends (Some q) ph e end = (q, refl, by q.standing (subst IsEnd (sym (some_is _ _ e)) end))
  where
    by : (s : Standing) → IsEnd (phase_in s) → is_ended s ≡ true
    by stands.Waiting end = absurd end
    by (stands.Running s) end = absurd end
    by stands.Done end = refl
    by (stands.Trap kind line) end = refl

-- the run of one that is running on a machine
pub runs-of : (t : Tree) (code : Code) (r : Ran) (s : Standing) (p : Stepping) → StandsAs t code (Some r) s → s ≡ stands.Running p → RunsAs t code r p
runs-of t code r s p h is =
    let there = subst (λ z. StandsAs t code (Some r) z) is h in
    subst (λ z. RunsAs t code z p) (sym (some_is r there.0 there.1)) there.2
