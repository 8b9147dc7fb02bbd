-- What is at rest behind every schedule may be owned, and each run is of its behaviour.
use Rattle.std.proofs.Common.{◌≡◌, refl, sym, ◌∙◌, subst, ℕ, Bool as Truth, true, false, if◌then◌else◌, List, [], ◌∷◌, length, get_or, replicate}
use Rattle.std.proofs.Common.{Option, None, Some, slice_get, zero, suc}
use Rattle.std.proofs.lemmas.Option.{same_Some, get_or_from_slice_get}
use Rattle.rg_tree.specs.Tree.{Method, Tree}
use Rattle.rg_rules.specs.Acceptance.{Accepted}
use Rattle.rg_rules.specs.Types.{fields_of}
use Rattle.rg_rules.specs.Runs.{Ending, Running, Done, Stopped, Ran, plain_from}
use Rattle.rg_cown.specs.Cargo.{CargoList}
use Rattle.rg_opening.specs.Opening.{opening_of}
use Rattle.rg_opening.specs.Laws.{OpeningFits, ContentGoesBack}
use Rattle.rg_first.specs.First.{IsOfBehaviour}
use Rattle.rg_first.proofs.Runs.{runs-go_on, first-of_runs}
use Rattle.rg_plan.specs.Plans.{Turn as Behaviour, PlanOf}
use Rattle.rg_plan.specs.Laws.{IsGoodCown, IsGoodTurn, IsGoodPlan, PlansAreGood}
use Rattle.rg_sched_atomic.specs.Contents.{contents_at, givens, left_by}
use Rattle.rg_sched_atomic.specs.Behaviours.{all_methods, idle, run_of}
use Rattle.rg_sched_atomic.specs.Settings.{setting_of}
use Rattle.rg_sched_atomic.specs.Atomic.{Told, tell, World}
use Rattle.rg_sched_atomic.specs.Events.{may_begin, begins, one_more, event_by, event_of, event, after, first_world}
use Rattle.rg_contents.specs.Rest.{ImagesMayBeOwned, RestMayBeOwned, IsReady}
use Rattle.rg_contents.specs.Laws.{IsReached, ContentsMayBeOwned, BeginningIsAllowed, RunsAreOfBehaviours}
use Rattle.rg_contents.proofs.Lists.{set-all, put-all, all-at}
use Rattle.rg_contents.proofs.Owners.{turn-takes}
use Rattle.rg_contents.proofs.Begins.{is-ready}
use Rattle.rg_contents.proofs.Returns.{OwnedAt, left-owned}
use Rattle.rg_contents.proofs.News.{starts-owned}

-- the run of a behaviour, if it is told, is one of it
abbrev pub OfBehaviour : Tree → List Behaviour → ℕ → Option Ran → Type 0
OfBehaviour t bs i o = (b : Behaviour) (r : Ran) → slice_get bs i ≡ Some b → o ≡ Some r → IsOfBehaviour t b.class r.state

-- what is told
pub record AtRest (t : Tree) (p : PlanOf) (told : Told) : Type 0 where
  pub rest : RestMayBeOwned t p.cowns told.contents
  pub runs : (i : ℕ) → OfBehaviour t p.behaviours i (get_or told.runs i None)

module _ (opening : OpeningFits) (back : ContentGoesBack) (t : Tree) (a : Accepted t) (p : PlanOf) (good : IsGoodPlan t p) where
  turn : (i : ℕ) (b : Behaviour) → slice_get p.behaviours i ≡ Some b → IsGoodTurn t.classes p.cowns b
  turn i b there = all-at (IsGoodTurn t.classes p.cowns) p.behaviours i b good.behaviours there

  pub ready : (told : Told) (i : ℕ) (b : Behaviour) → AtRest t p told → slice_get p.behaviours i ≡ Some b
      → IsReady t b (givens (fields_of t.classes b.class) (contents_at told.contents b.cowns))
  ready told i b h there = is-ready t p.cowns told.contents b good.main (turn i b there) h.rest

  -- a run that is told, and what it leaves
  tell-rests : (told : Told) (i : ℕ) (b : Behaviour) (r : Ran) → AtRest t p told → slice_get p.behaviours i ≡ Some b → IsOfBehaviour t b.class r.state
      → AtRest t p (tell t.classes i b r told)
  tell-rests told i b r h there of = record {
    rest = put-all (OwnedAt t p.cowns) b.cowns (left_by (fields_of t.classes b.class) r.state r.ending b.cowns) told.contents
        (left-owned back t r.state p.cowns b.class r.ending b.cowns of (turn-takes t.classes p.cowns b (turn i b there))) h.rest;
    runs = set-all (OfBehaviour t p.behaviours) None told.runs i (Some r) (λ d q at is.
        subst (λ (z : Ran). IsOfBehaviour t d.class z.state) (same_Some r q is)
        (subst (λ (z : Behaviour). IsOfBehaviour t z.class r.state) (same_Some b d (sym there ∙ at)) of)) h.runs;
  }

  -- the run of a behaviour that begins
  run-of : (told : Told) (i : ℕ) (b : Behaviour) (n : ℕ) → AtRest t p told → slice_get p.behaviours i ≡ Some b
      → IsOfBehaviour t b.class (run_of t.classes b (contents_at told.contents b.cowns) n).state
  run-of told i b n h there =
      let k = ready told i b h there in
      let gs = givens (fields_of t.classes b.class) (contents_at told.contents b.cowns) in
      subst (λ (m : Method). IsOfBehaviour t b.class (plain_from t.classes n 0 (opening_of b.class m gs)).state)
      (sym (get_or_from_slice_get (all_methods t.classes) b.method k.method idle k.method_is))
      (first-of_runs opening t b.class k.method gs n 0 a k.may)

  event-rests : (w : World) (i : ℕ) → AtRest t p w.told → AtRest t p (event t.classes p.behaviours i w).told
  event-rests w i h = by (slice_get p.behaviours i) (get_or w.told.runs i None) refl refl
    where
      if_may : (c : Truth) (b : Behaviour) → slice_get p.behaviours i ≡ Some b
          → AtRest t p ((λ (q : World). q.told) (if c then begins t.classes i b w else w))
      if_may true b there = tell-rests w.told i b (run_of t.classes b (contents_at w.told.contents b.cowns) 0) h there (run-of w.told i b 0 h there)
      if_may false b there = h

      if_runs : (e : Ending) (b : Behaviour) (r : Ran) → slice_get p.behaviours i ≡ Some b → get_or w.told.runs i None ≡ Some r
          → AtRest t p (event_by t.classes i b r e w).told
      if_runs Running b r there told =
          tell-rests w.told i b (one_more t.classes r) h there (runs-go_on t b.class r.state 1 r.steps a (h.runs i b r there told))
      if_runs Done b r there told = h
      if_runs (Stopped kind line) b r there told = h

      by : (o : Option Behaviour) (run : Option Ran) → slice_get p.behaviours i ≡ o → get_or w.told.runs i None ≡ run
          → AtRest t p (event_of t.classes p.behaviours i o run w).told
      by None run there told = h
      by (Some b) None there told = if_may (may_begin p.behaviours w.told.runs i) b there
      by (Some b) (Some r) there told = if_runs r.ending b r there told

  after-rests : (schedule : List ℕ) (w : World) → AtRest t p w.told → AtRest t p (after t.classes p.behaviours schedule w).told
  after-rests [] w h = h
  after-rests (i ∷ is) w h = after-rests is (event t.classes p.behaviours i w) (event-rests w i h)

  first-rests : (images : List CargoList) → ImagesMayBeOwned t p.cowns images → AtRest t p (first_world (setting_of t.classes p images)).told
  first-rests images owned = record {
    rest = starts-owned t p.cowns images (λ n c there. all-at (IsGoodCown t.classes) p.cowns n c good.cowns there) owned;
    runs = λ i b r there is. absurd (none-told (length p.behaviours) i r is);
  }
    where
      none-told : (n i : ℕ) (r : Ran) → get_or (replicate n None) i None ≡ Some r → ⊥
      none-told zero i r e = cc
      none-told (suc n) zero r e = cc
      none-told (suc n) (suc i) r e = none-told n i r e

rests : PlansAreGood → OpeningFits → ContentGoesBack → (t : Tree) (p : PlanOf) (w : World) → IsReached t p w → AtRest t p w.told
rests plans opening back t p w r =
    let good = plans t r.bytes p r.read in
    subst (λ (q : World). AtRest t p q.told) (sym r.world)
    (after-rests opening back t r.accepted p good r.schedule (first_world (setting_of t.classes p r.images))
    (first-rests opening back t r.accepted p good r.images r.owned))

pub contents-owned : PlansAreGood → OpeningFits → ContentGoesBack → ContentsMayBeOwned
contents-owned plans opening back t p w r = (rests plans opening back t p w r).rest

pub beginning-allowed : PlansAreGood → OpeningFits → ContentGoesBack → BeginningIsAllowed
beginning-allowed plans opening back t p w i b r there =
    ready opening back t r.accepted p (plans t r.bytes p r.read) w.told i b (rests plans opening back t p w r) there

pub runs-of_behaviours : PlansAreGood → OpeningFits → ContentGoesBack → RunsAreOfBehaviours
runs-of_behaviours plans opening back t p w i b r reached there is = (rests plans opening back t p w reached).runs i b r there is
