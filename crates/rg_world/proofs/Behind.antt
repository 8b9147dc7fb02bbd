-- The event of a number, on a world over machines.
use Rattle.std.proofs.Common.{◌≡◌, ℕ, suc, ◌<◌, inl, inr, Bool, true, false, All, List, [], ◌∷◌, ◌++◌, length, get_or, set, map, Option, Some, None, slice_get}
use Rattle.std.proofs.Common.{refl, sym, ap, ◌∙◌, subst, arith}
use Rattle.std.specs.Prelude.{slice_index}
use Rattle.std.proofs.lemmas.List.{length-set, get_or-set_same, get_or-set_other}
use Rattle.std.proofs.lemmas.Option.{slice_get_within, get_or_from_slice_get}
use Rattle.rg_tree.specs.Tree.{Tree}
use Rattle.rg_rules.specs.Types.{fields_of}
use Rattle.rg_rules.specs.Runs.{Running, Ran}
use Rattle.rg_code.specs.Code.{Code}
use Rattle.rg_cown.specs.Cargo.{CargoList}
use Rattle.rg_contents.specs.Laws.{IsReached, BeginningIsAllowed, RunsAreOfBehaviours}
use Rattle.rg_contents.specs.Rest.{IsReady}
use Rattle.rg_first.specs.First.{IsFirst, IsOfBehaviour}
use Rattle.rg_plan.specs.Laws.{IsGoodTurn, PlansAreGood}
use Rattle.rg_plan.specs.Plans.{Turn as Behaviour, PlanOf, in_front_of}
use Rattle.rg_sched_atomic.specs.Numbers.{In, Distinct}
use Rattle.rg_sched_atomic.specs.Contents.{Content, Away, contents_at, givens, put, left_by}
use Rattle.rg_sched_atomic.specs.Behaviours.{run_of, cowns_in}
use Rattle.rg_sched_atomic.specs.Phases.{printed_by}
use Rattle.rg_sched_atomic.specs.Settings.{Setting, setting_of}
use Rattle.rg_sched_atomic.specs.Atomic.{World, tell}
use Rattle.rg_sched_atomic.specs.Events.{may_begin, one_more, steps_on, event, first_world, world_after}
use Rattle.rg_sched_atomic.specs.Laws.{PlansAreSettings, FrontsAreEnough, AllSeparate}
use Rattle.rg_slots.specs.declared.slot.Slot.{Slot}
use Rattle.rg_step.specs.Pacers.{Asks}
use Rattle.rg_step.specs.Stepping.{Stepping}
use Rattle.rg_world.specs.declared.progress.Progress.{Progress}
use Rattle.rg_world.specs.declared.progress.Standing.{Standing}
use Rattle.rg_world.specs.declared.progress.Standing.TheVariants as stands
use Rattle.rg_world.specs.Asking.{AskedMore, EventAsks, step_asks}
use Rattle.rg_world.specs.Standing.{RunsAs, StandsAs, IsProgress}
use Rattle.rg_world.specs.Worlds.{WorldIn, Shows, IsBehind}
use Rattle.rg_world.specs.Inner.Steps.{all_ended_in, is_ended, runs_so, contents_with, Leaves}
use Rattle.rg_world.proofs.Asking.{runs-ask, idle-asks}
use Rattle.rg_world.proofs.Events.{after-push, waits, goes, done-stays, stopped-stays, contents-length, runs-length, start-length, put-away}
use Rattle.rg_world.proofs.Shown.{told-again, runs-as, all-ended-same}

at-is : {X : Type 0} → (xs : List X) (P : X → Type 0) (i : ℕ) (x : X) → All P xs → slice_get xs i ≡ Some x → P x
at-is xs P i x all there = subst P (get_or_from_slice_get xs i x x there) (all i x (slice_get_within xs i x there))

in-place : (ns : List ℕ) (P : ℕ → Type 0) → All P ns → (n : ℕ) → In ns n → P n
in-place ns P all n h = by ns all h
  where
    by : (ms : List ℕ) → All P ms → In ms n → P n
    by [] all h = absurd h
    by (m ∷ ms) all (inl e) = subst P (sym e) (all 0 m (omega arith))
    by (m ∷ ms) all (inr h) = by ms (λ k d l. all (suc k) d (omega (arith, l))) h

module _ (t : Tree) (code : Code) (p : PlanOf) (images : List CargoList) (schedule : List ℕ) (m : WorldIn) (h : IsBehind t code p images schedule m)
    (i : ℕ) (b : Behaviour) (there : slice_get p.behaviours i ≡ Some b) where
  abbrev pub setting : Setting
  setting = setting_of t.classes p images

  -- what the world shows
  abbrev pub world : World
  world = world_after t.classes setting schedule

  next-is : world_after t.classes setting (schedule ++ i ∷ []) ≡ event t.classes p.behaviours i world
  next-is = after-push t.classes p.behaviours schedule i (first_world setting)

  behind-as : (n : WorldIn) (u : World) → event t.classes p.behaviours i world ≡ u → Shows t code n u
      → IsBehind t code p images (schedule ++ i ∷ []) n
  behind-as n u is shows = record {
    accepted = h.accepted;
    lowers = h.lowers;
    plan = h.plan;
    shows = subst (λ z. Shows t code n z) (sym (next-is ∙ is)) shows;
  }

  pub reached : IsReached t p world
  reached = record {
    accepted = h.accepted;
    bytes = h.plan.bytes;
    read = h.plan.read;
    images = images;
    owned = h.plan.owned;
    schedule = schedule;
    world = refl;
  }

  pub reached-next : (u : World) → event t.classes p.behaviours i world ≡ u → IsReached t p u
  reached-next u is = record {
    accepted = h.accepted;
    bytes = h.plan.bytes;
    read = h.plan.read;
    images = images;
    owned = h.plan.owned;
    schedule = schedule ++ i ∷ [];
    world = sym (next-is ∙ is);
  }

  good : PlansAreGood → IsGoodTurn t.classes p.cowns b
  good plans = at-is p.behaviours (IsGoodTurn t.classes p.cowns) i b (plans t h.plan.bytes p h.plan.read).behaviours there

  pub class-below : PlansAreGood → b.class < length t.classes
  class-below plans = slice_get_within t.classes b.class (good plans).class (good plans).there

  -- there are as many as the plan has
  pub progress-below : i < length m.progress
  progress-below = subst (λ n. i < n) (sym (h.shows.many ∙ runs-length t.classes setting schedule)) (slice_get_within p.behaviours i b there)

  cowns-many : length m.contents ≡ length p.cowns
  cowns-many = ap length h.shows.contents ∙ contents-length t.classes p images schedule h.plan.many

  pub cowns-below : PlansAreGood → All (λ n. n < length m.contents) b.cowns
  cowns-below plans k d l = subst (λ z. get_or b.cowns k d < z) (sym cowns-many) ((good plans).below k d l)

  pub own-cowns : PlansAreSettings → Distinct b.cowns
  own-cowns plans =
      at-is p.behaviours (λ (c : Behaviour). Distinct c.cowns) i b (plans t h.plan.bytes p images h.plan.read) there

  -- one that hasn't begun

  none-told : (q : Progress) → slice_get m.progress i ≡ Some q → q.standing ≡ stands.Waiting → get_or world.told.runs i None ≡ None
  none-told q at waits = subst (λ s. StandsAs t code (get_or world.told.runs i None) s) waits (h.shows.each i q at).standing

  -- whether it may begin, by those that stand right in front of it
  may-begin : FrontsAreEnough → PlansAreSettings → (may : Bool) → all_ended_in m.progress (in_front_of p.behaviours i b) ≡ may
      → may_begin p.behaviours world.told.runs i ≡ may
  may-begin fronts plans may ended =
      sym (all-ended-same t code m world (in_front_of p.behaviours i b) h.shows
      ∙ fronts t.classes setting schedule i b (plans t h.plan.bytes p images h.plan.read) there) ∙ ended

  pub waits-on : FrontsAreEnough → PlansAreSettings → (q : Progress) → slice_get m.progress i ≡ Some q → q.standing ≡ stands.Waiting
      → all_ended_in m.progress (in_front_of p.behaviours i b) ≡ false → IsBehind t code p images (schedule ++ i ∷ []) m
  waits-on fronts plans q at standing ended =
      behind-as m world (waits t.classes p.behaviours i b world false there (none-told q at standing) (may-begin fronts plans false ended)) h.shows

  pub begun-now : FrontsAreEnough → PlansAreSettings → (q : Progress) (s : Stepping) (cs : List Content) → slice_get m.progress i ≡ Some q
      → q.standing ≡ stands.Waiting → all_ended_in m.progress (in_front_of p.behaviours i b) ≡ true → RunsAs t code (run_of t.classes b (contents_at m.contents b.cowns) 0) s
      → (run_of t.classes b (contents_at m.contents b.cowns) 0).state.output ≡ []
      → cs ≡ put b.cowns (map (λ n. Away) b.cowns) m.contents
      → IsBehind t code p images (schedule ++ i ∷ [])
      (record { progress = set m.progress i (record q { standing = stands.Running s }); contents = cs; began = m.began ++ i ∷ [] })
  begun-now fronts plans q s cs at standing ended runs silent put-is =
      let same : contents_at m.contents b.cowns ≡ contents_at world.told.contents b.cowns = ap (λ z. contents_at z b.cowns) h.shows.contents in
      let R : List Content → Ran = λ z. run_of t.classes b z 0 in
      let r = R (contents_at world.told.contents b.cowns) in
      let runs-so : RunsAs t code r s = subst (λ z. RunsAs t code (R z) s) same runs in
      let old = h.shows.each i q at in
      let none = none-told q at standing in
      let new : Progress = record q { standing = stands.Running s } in
      let is : IsProgress t code (Some r) (slice_index world.turns i) new = record {
        standing = (r, refl, runs-so);
        printed = old.printed ∙ ap printed_by none ∙ sym (subst (λ z. (R z).state.output ≡ []) same silent);
        turns_are = old.turns_are;
      } in
      let left : left_by (fields_of t.classes b.class) r.state r.ending b.cowns ≡ map (λ n. Away) b.cowns =
      ap (λ e. left_by (fields_of t.classes b.class) r.state e b.cowns) runs-so.ending in
      let shown = told-again t code m world i q new b r cs (m.began ++ i ∷ []) world.turns h.shows at is (λ j d. refl) refl
      (put-is ∙ ap (put b.cowns (map (λ n. Away) b.cowns)) h.shows.contents ∙ ap (λ z. put b.cowns z world.told.contents) (sym left)) in
      behind-as _ (record { told = tell t.classes i b r world.told; began = m.began ++ i ∷ []; turns = world.turns })
      (waits t.classes p.behaviours i b world true there none (may-begin fronts plans true ended)
      ∙ ap (λ (z : List ℕ). record { told = tell t.classes i b r world.told; began = z ++ i ∷ []; turns = world.turns }) (sym h.shows.began))
      shown

  pub ready-now : BeginningIsAllowed → IsReady t b (givens (fields_of t.classes b.class) (contents_at m.contents b.cowns))
  ready-now laws = subst (λ z. IsReady t b (givens (fields_of t.classes b.class) (contents_at z b.cowns))) (sym h.shows.contents)
      (laws t p world i b reached there)

  -- one that is running

  pub run-told : (q : Progress) → slice_get m.progress i ≡ Some q → runs_so q.standing ≡ true
      → (r : Ran) × (get_or world.told.runs i None ≡ Some r) × (r.ending ≡ Running)
  run-told q at on = runs-as t code (get_or world.told.runs i None) q.standing on (h.shows.each i q at).standing

  pub progress-told : (q : Progress) (r : Ran) → slice_get m.progress i ≡ Some q → get_or world.told.runs i None ≡ Some r
      → IsProgress t code (Some r) (slice_index world.turns i) q
  progress-told q r at told = subst (λ o. IsProgress t code o (slice_index world.turns i) q) told (h.shows.each i q at)

  pub of-behaviour : RunsAreOfBehaviours → (r : Ran) → get_or world.told.runs i None ≡ Some r → IsOfBehaviour t b.class r.state
  of-behaviour laws r told = laws t p world i b r reached there told

  pub then-of-behaviour : RunsAreOfBehaviours → (q : Progress) (r : Ran) → slice_get m.progress i ≡ Some q
      → get_or world.told.runs i None ≡ Some r → r.ending ≡ Running → IsOfBehaviour t b.class (one_more t.classes r).state
  then-of-behaviour laws q r at told on =
      let u = steps_on t.classes i b r world in
      let within = subst (λ n. i < n) h.shows.many (slice_get_within m.progress i q at) in
      laws t p u i b (one_more t.classes r) (reached-next u (goes t.classes p.behaviours i b world r there told on)) there
      (get_or-set_same world.told.runs i (Some (one_more t.classes r)) None within)

  -- what a step asks for
  pub advance-needs : RunsAreOfBehaviours → (q x : Progress) (class : ℕ) (u : Tree) → slice_get m.progress i ≡ Some q → runs_so q.standing ≡ true
      → x ≡ q → class ≡ b.class → u ≡ t
      → (r : Ran) × StandsAs u code (Some r) x.standing × (r.ending ≡ Running) × IsFirst u.classes class r.state
      × IsOfBehaviour u class (one_more u.classes r).state
  advance-needs laws q x class u at on same class-is tree-is =
      let r = run-told q at on in
      let F : Tree → ℕ → Progress → Type 0 = λ u class x. (r : Ran) × StandsAs u code (Some r) x.standing × (r.ending ≡ Running)
      × IsFirst u.classes class r.state × IsOfBehaviour u class (one_more u.classes r).state in
      let here : F t b.class q = (
        r.0,
        (progress-told q r.0 at r.1).standing,
        r.2,
        (of-behaviour laws r.0 r.1).first,
        then-of-behaviour laws q r.0 at r.1 r.2,
      ) in
      subst (λ z. F z class x) (sym tree-is) (subst (λ z. F t z x) (sym class-is) (subst (λ z. F t b.class z) (sym same) here))

  pub stepped-now : AllSeparate → PlansAreSettings → PlansAreGood → (q new : Progress) (r : Ran) (left : Option (List Slot)) (cs : List Content)
      → slice_get m.progress i ≡ Some q → get_or world.told.runs i None ≡ Some r → r.ending ≡ Running
      → Leaves (fields_of t.classes b.class) (one_more t.classes r) left
      → IsProgress t code (Some (one_more t.classes r)) (suc (slice_index world.turns i)) new
      → cs ≡ contents_with b.cowns left m.contents
      → IsBehind t code p images (schedule ++ i ∷ []) (record { progress = set m.progress i new; contents = cs; began = m.began })
  stepped-now separate settings plans q new r left cs at told on leaves is put-is =
      let r2 = one_more t.classes r in
      let turns = set world.turns i (suc (slice_index world.turns i)) in
      let within : i < length world.turns = subst (λ n. i < n) (h.shows.many ∙ sym h.shows.turns) (slice_get_within m.progress i q at) in
      let counted : slice_index turns i ≡ suc (slice_index world.turns i) = get_or-set_same world.turns i (suc (slice_index world.turns i)) 0 within in
      let new-is = subst (λ n. IsProgress t code (Some r2) n new) (sym counted) is in
      let shown = told-again t code m world i q new b r2 cs m.began turns h.shows at new-is
      (λ j d. get_or-set_other world.turns i j (suc (slice_index world.turns i)) 0 d) (length-set world.turns i (suc (slice_index world.turns i)))
      (put-is ∙ by left leaves) in
      behind-as _ (record { told = tell t.classes i b r2 world.told; began = m.began; turns = turns })
      (goes t.classes p.behaviours i b world r there told on
      ∙ ap (λ (z : List ℕ). record { told = tell t.classes i b r2 world.told; began = z; turns = turns }) (sym h.shows.began))
      shown
    where
      away : put b.cowns (map (λ n. Away) b.cowns) world.told.contents ≡ world.told.contents
      away = put-away b.cowns world.told.contents (λ n in-b l. (separate t.classes setting schedule (settings t h.plan.bytes p images h.plan.read)).away
          n i (subst (λ z. n < z) (contents-length t.classes p images schedule h.plan.many ∙ sym (start-length t.classes p.cowns images h.plan.many)) l)
          (r, told, on) (subst (λ o. In (cowns_in o) n) (sym there) in-b))

      by : (o : Option (List Slot)) → Leaves (fields_of t.classes b.class) (one_more t.classes r) o → contents_with b.cowns o m.contents
          ≡ put b.cowns (left_by (fields_of t.classes b.class) (one_more t.classes r).state (one_more t.classes r).ending b.cowns) world.told.contents
      by None goes-on =
          h.shows.contents ∙ sym away
          ∙ ap (λ e. put b.cowns (left_by (fields_of t.classes b.class) (one_more t.classes r).state e b.cowns) world.told.contents) (sym goes-on)
      by (Some back) is-left = is-left b.cowns m.contents
          ∙ ap (put b.cowns (left_by (fields_of t.classes b.class) (one_more t.classes r).state (one_more t.classes r).ending b.cowns)) h.shows.contents

  pub stepped-by : AllSeparate → PlansAreSettings → PlansAreGood → RunsAreOfBehaviours → (q x new : Progress) (class : ℕ) (u : Tree)
      (left : Option (List Slot)) (cs : List Content) → slice_get m.progress i ≡ Some q → runs_so q.standing ≡ true → x ≡ q → class ≡ b.class → u ≡ t
      → ((r : Ran) (n : ℕ) → IsProgress u code (Some r) n x → r.ending ≡ Running → IsFirst u.classes class r.state
      → IsOfBehaviour u class (one_more u.classes r).state → Leaves (fields_of u.classes class) (one_more u.classes r) left
      × IsProgress u code (Some (one_more u.classes r)) (suc n) new)
      → cs ≡ contents_with b.cowns left m.contents
      → IsBehind t code p images (schedule ++ i ∷ []) (record { progress = set m.progress i new; contents = cs; began = m.began })
  stepped-by separate settings plans laws q x new class u left cs at on same class-is tree-is does put-is =
      let F : Tree → ℕ → Progress → Type 0 = λ u class x. (r : Ran) (n : ℕ) → IsProgress u code (Some r) n x → r.ending ≡ Running
      → IsFirst u.classes class r.state → IsOfBehaviour u class (one_more u.classes r).state
      → Leaves (fields_of u.classes class) (one_more u.classes r) left × IsProgress u code (Some (one_more u.classes r)) (suc n) new in
      let here : F t b.class q = subst (λ z. F t b.class z) same (subst (λ z. F t z x) class-is (subst (λ z. F z class x) tree-is does)) in
      let r = run-told q at on in
      let did = here r.0 (slice_index world.turns i) (progress-told q r.0 at r.1) r.2 (of-behaviour laws r.0 r.1).first
      (then-of-behaviour laws q r.0 at r.1 r.2) in
      stepped-now separate settings plans q new r.0 left cs at r.1 r.2 did.0 did.1 put-is

  -- one that has ended

  pub ended-on : (q : Progress) → slice_get m.progress i ≡ Some q → is_ended q.standing ≡ true → IsBehind t code p images (schedule ++ i ∷ []) m
  ended-on q at over = by q.standing over (h.shows.each i q at).standing
    where
      by : (s : Standing) → is_ended s ≡ true → StandsAs t code (get_or world.told.runs i None) s → IsBehind t code p images (schedule ++ i ∷ []) m
      by stands.Waiting e st = absurd (cc)
      by (stands.Running s) e st = absurd (cc)
      by stands.Done e st = behind-as m world (done-stays t.classes p.behaviours i b world st.0 there st.1 st.2) h.shows
      by (stands.Trap kind line) e st =
          behind-as m world (stopped-stays t.classes p.behaviours i b world st.0 kind line there st.1 st.2) h.shows

  -- how often the pacers are asked

  pub steps-ask : (q x : Progress) (u : Tree) (before after : Asks) → slice_get m.progress i ≡ Some q → runs_so q.standing ≡ true → x ≡ q → u ≡ t
      → ((r : Ran) → StandsAs u code (Some r) x.standing → AskedMore (step_asks u.classes r.state) before after)
      → EventAsks t p images schedule i before after
  steps-ask q x u before after at on same tree-is does =
      let F : Tree → Progress → Type 0 = λ u x. (r : Ran) → StandsAs u code (Some r) x.standing
      → AskedMore (step_asks u.classes r.state) before after in
      let here : F t q = subst (λ z. F t z) same (subst (λ z. F z x) tree-is does) in
      let r = run-told q at on in
      runs-ask t.classes r.0 (get_or world.told.runs i None) before after r.1 r.2 (here r.0 (progress-told q r.0 at r.1).standing)

  pub idle-on : (q : Progress) (before : Asks) → slice_get m.progress i ≡ Some q → runs_so q.standing ≡ false
      → EventAsks t p images schedule i before before
  idle-on q before at idle = idle-asks t code (get_or world.told.runs i None) q.standing before (h.shows.each i q at).standing idle
