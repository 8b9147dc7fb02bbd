-- Each content is at rest or in one running behaviour.
use Rattle.std.proofs.Common.{◌≡◌, ◌≢◌, ℕ, zero, suc, ◌<◌, ◌⊎◌, inl, inr, Bool, true, false, List, [], ◌∷◌, length, map, get_or, set, Option, Some}
use Rattle.std.proofs.Common.{None}
use Rattle.std.proofs.Common.{◌||◌, nat_eq, slice_get, refl, sym, ap, ◌∙◌, subst, arith, replicate}
use Rattle.std.specs.Prelude.{if◌then◌else◌}
use Rattle.std.specs.List.{list_any}
use Rattle.std.proofs.lemmas.Bool.Decides.{nat_tests}
use Rattle.std.proofs.lemmas.List.{get_or-set_other, length-set, length-replicate}
use Rattle.std.proofs.lemmas.Option.{slice_get_within}
use Rattle.rg_base.specs.declared.value.Val.{Val}
use Rattle.rg_base.specs.declared.value.Val.TheVariants as val
use Rattle.rg_tree.specs.Tree.{Class, Field}
use Rattle.rg_rules.specs.Types.{fields_of}
use Rattle.rg_rules.specs.State.{State}
use Rattle.rg_rules.specs.Runs.{Ending, Running, Done, Stopped, Ran}
use Rattle.rg_cown.specs.Cargo.{CargoList}
use Rattle.rg_plan.specs.Plans.{Turn as Behaviour, among}
use Rattle.rg_sched_atomic.specs.Numbers.{In}
use Rattle.rg_sched_atomic.specs.Contents.{Content, Away, Empty, Held, first_of, rest_of, put, contents_at, content_of, goes_back, left_by}
use Rattle.rg_sched_atomic.specs.Behaviours.{run_of, cowns_in, cowns_of, share, is_over, has_ended}
use Rattle.rg_sched_atomic.specs.Settings.{Setting}
use Rattle.rg_sched_atomic.specs.Atomic.{Told, tell, World}
use Rattle.rg_sched_atomic.specs.Events.{may_begin, begins, one_more, steps_on, event_by, event_of, event, after, first_world, world_after}
use Rattle.rg_sched_atomic.specs.Laws.{NoneTwice, IsRunning, Separate}
use Rattle.rg_sched_atomic.proofs.Lists.{get_set, get_put}
use Rattle.rg_sched_atomic.proofs.Worlds.{not_two, some_is, no_some, none-replicate, share_by, Stands, in_or_not, has_begun, either_less, event-keeps}
use Rattle.rg_sched_atomic.proofs.Worlds.{first-stands}

-- What is put

abbrev not_away : Content → Type 0
not_away c = c ≢ Away

put-length : (ns : List ℕ) (xs cs : List Content) → length (put ns xs cs) ≡ length cs
put-length [] xs cs = refl
put-length (n ∷ ns) xs cs = put-length ns (rest_of xs) (set cs n (first_of xs)) ∙ length-set cs n (first_of xs)

-- what is put at a cown is one of the contents put, or empty: where each of them passes, it passes
abbrev AllPut : (Content → Type 0) → List Content → Type 0
AllPut P [] = P Empty
AllPut P (x ∷ xs) = P x × AllPut P xs

first-put : (P : Content → Type 0) (xs : List Content) → AllPut P xs → P (first_of xs)
first-put P [] h = h
first-put P (x ∷ xs) h = h.0

rest-put : (P : Content → Type 0) (xs : List Content) → AllPut P xs → AllPut P (rest_of xs)
rest-put P [] h = h
rest-put P (x ∷ xs) h = h.1

put-there : (P : Content → Type 0) (ns : List ℕ) (xs cs : List Content) (m : ℕ) → AllPut P xs → In ns m → m < length cs →
    P (get_or (put ns xs cs) m Empty)
put-there P [] xs cs m h a l = absurd a
put-there P (n ∷ ns) xs cs m h a l =
    by (in_or_not ns m) a
    (λ b. put-there P ns (rest_of xs) (set cs n (first_of xs)) m (rest-put P xs h) b (subst (λ k. m < k) (sym (length-set cs n (first_of xs))) l))
  where
    here : m ≡ n → (In ns m → ⊥) → P (get_or (put ns (rest_of xs) (set cs n (first_of xs))) m Empty)
    here e out =
        let at : get_or (set cs n (first_of xs)) m Empty ≡ first_of xs =
        subst (λ k. get_or (set cs k (first_of xs)) m Empty ≡ first_of xs) e (get_set cs m (first_of xs) Empty l) in
        subst P (sym (get_put ns (rest_of xs) (set cs n (first_of xs)) m out ∙ at)) (first-put P xs h)

    by : In ns m ⊎ (In ns m → ⊥) → In (n ∷ ns) m → (In ns m → P (get_or (put ns (rest_of xs) (set cs n (first_of xs))) m Empty))
        → P (get_or (put ns (rest_of xs) (set cs n (first_of xs))) m Empty)
    by (inl b) a rest = rest b
    by (inr out) (inl e) rest = here e out
    by (inr out) (inr b) rest = rest b

no_empty : (ns : List ℕ) → AllPut not_away (map (λ n. Empty) ns)
no_empty [] = λ e. cc
no_empty (n ∷ ns) = (λ e. cc, no_empty ns)

back-content : (s : State) (v : Val) → not_away (content_of s v)
back-content s val.Nil = λ e. cc
back-content s (val.Int i) = λ e. cc
back-content s (val.Bool b) = λ e. cc
back-content s (val.Obj a) = λ e. cc

back-all : (s : State) (vs : List Val) → AllPut not_away (map (content_of s) vs)
back-all s [] = λ e. cc
back-all s (v ∷ vs) = (back-content s v, back-all s vs)

-- while a behaviour runs its contents are away
away-put : (ns : List ℕ) (cs : List Content) (m : ℕ) → In ns m → m < length cs → get_or (put ns (map (λ n. Away) ns) cs) m Empty ≡ Away
away-put [] cs m a l = absurd a
away-put (n ∷ ns) cs m a l =
    by (in_or_not ns m) a (λ b. away-put ns (set cs n Away) m b (subst (λ k. m < k) (sym (length-set cs n Away)) l))
  where
    by : In ns m ⊎ (In ns m → ⊥) → In (n ∷ ns) m → (In ns m → get_or (put ns (map (λ n. Away) ns) (set cs n Away)) m Empty ≡ Away)
        → get_or (put ns (map (λ n. Away) ns) (set cs n Away)) m Empty ≡ Away
    by (inl b) a rest = rest b
    by (inr out) (inl e) rest =
        get_put ns (map (λ n. Away) ns) (set cs n Away) m out
        ∙ subst (λ k. get_or (set cs k Away) m Empty ≡ Away) e (get_set cs m Away Empty l)
    by (inr out) (inr b) rest = rest b

-- where a content is away behind a run, the run goes on
left-away : (fields : List Field) (s : State) (e : Ending) (ns : List ℕ) (cs : List Content) (m : ℕ) → In ns m → m < length cs
    → get_or (put ns (left_by fields s e ns) cs) m Empty ≡ Away → e ≡ Running
left-away fields s Running ns cs m a l h = refl
left-away fields s Done ns cs m a l h = absurd (put-there not_away ns (goes_back fields s) cs m (back-all s _) a l h)
left-away fields s (Stopped kind line) ns cs m a l h = absurd (put-there not_away ns (map (λ n. Empty) ns) cs m (no_empty ns) a l h)

left-runs : (fields : List Field) (s : State) (e : Ending) (ns : List ℕ) (cs : List Content) (m : ℕ) → In ns m → m < length cs → e ≡ Running
    → get_or (put ns (left_by fields s e ns) cs) m Empty ≡ Away
left-runs fields s Running ns cs m a l h = away-put ns cs m a l
left-runs fields s Done ns cs m a l h = cc
left-runs fields s (Stopped kind line) ns cs m a l h = cc

-- Sharing goes both ways

among-has : (ms : List ℕ) (n : ℕ) → among ms n ≡ true → In ms n
among-has [] n h = absurd (no_way h)
  where
    no_way : false ≡ true → ⊥
    no_way e = cc
among-has (m ∷ ms) n h = by (nat_eq m n) refl h (among-has ms n)
  where
    by : (t : Bool) → nat_eq m n ≡ t → (t || among ms n) ≡ true → (among ms n ≡ true → In ms n) → In (m ∷ ms) n
    by true e h rest = inl (grind (arith, nat_tests))
    by false e h rest = inr (rest h)

any-has : (ns ms : List ℕ) → list_any (among ms) ns ≡ true → (n : ℕ) × In ns n × In ms n
any-has [] ms h = absurd (no_way h)
  where
    no_way : false ≡ true → ⊥
    no_way e = cc
any-has (n ∷ ns) ms h = by (among ms n) refl h (any-has ns ms)
  where
    by : (t : Bool) → among ms n ≡ t → (t || list_any (among ms) ns) ≡ true → (list_any (among ms) ns ≡ true → (k : ℕ) × In ns k × In ms k)
        → (k : ℕ) × In (n ∷ ns) k × In ms k
    by true e h rest = (n, inl refl, among-has ms n e)
    by false e h rest = let p = rest h in (p.0, inr p.1, p.2)

share_sym : (bs : List Behaviour) (i k : ℕ) → share bs i k ≡ true → share bs k i ≡ true
share_sym bs i k h = let p = any-has (cowns_of bs i) (cowns_of bs k) h in share_by bs k i p.0 p.2 p.1

-- What always holds

running-not_ended : (o : Option Ran) (r : Ran) → o ≡ Some r → r.ending ≡ Running → has_ended o ≡ false
running-not_ended o r e f = ap has_ended e ∙ ap is_over f

-- two running behaviours share no cown
pub apart_running : (classes : List Class) (s : Setting) (w : World) → Stands classes s w → (i k : ℕ) → IsRunning w i → IsRunning w k → k < i
    → share s.behaviours i k ≡ true → ⊥
apart_running classes s w h i k p q l sh =
    not_two (has_ended (get_or w.told.runs k None)) (h.world.ended i k (has_begun classes s w i p.0 h p.1) l sh)
    (running-not_ended (get_or w.told.runs k None) q.0 q.1 q.2)

-- a content is away where a running behaviour has it
pub record Rests (s : Setting) (w : World) : Type 0 where
  pub contents : length w.told.contents ≡ length s.contents
  pub runs : length w.told.runs ≡ length s.behaviours
  pub taken : (n : ℕ) → n < length s.contents → get_or w.told.contents n Empty ≡ Away → (i : ℕ) × IsRunning w i × In (cowns_of s.behaviours i) n
  pub away : (n i : ℕ) → n < length s.contents → IsRunning w i → In (cowns_of s.behaviours i) n → get_or w.told.contents n Empty ≡ Away

-- it is so behind a run that is told of a behaviour which hadn't ended
tell-rests : (classes : List Class) (s : Setting) (w u : World) (i : ℕ) (b : Behaviour) (r : Ran) → Stands classes s w → Stands classes s u
    → slice_get s.behaviours i ≡ Some b → has_ended (get_or w.told.runs i None) ≡ false → u.told ≡ tell classes i b r w.told → Rests s w → Rests s u
tell-rests classes s w u i b r h g there on told rests = record {
  contents = ap (λ (t : Told). length t.contents) told ∙ put-length b.cowns left w.told.contents ∙ rests.contents;
  runs = ap (λ (t : Told). length t.runs) told ∙ length-set w.told.runs i (Some r) ∙ rests.runs;
  taken = λ n l e. taken_by n l (subst (λ (t : Told). get_or t.contents n Empty ≡ Away) told e) (in_or_not b.cowns n);
  away = λ n j l p a. subst (λ (t : Told). get_or t.contents n Empty ≡ Away) (sym told) (away_by n j l p a (same_or_not j i));
}
  where
    same_or_not : (a c : ℕ) → (a ≡ c) ⊎ (a ≢ c)
    same_or_not zero zero = inl refl
    same_or_not zero (suc c) = inr (λ e. absurd (omega (arith, e)))
    same_or_not (suc a) zero = inr (λ e. absurd (omega (arith, e)))
    same_or_not (suc a) (suc c) = up (same_or_not a c)
      where
        up : (a ≡ c) ⊎ (a ≢ c) → (suc a ≡ suc c) ⊎ (suc a ≢ suc c)
        up (inl e) = inl (ap suc e)
        up (inr d) = inr (λ e. d (omega (arith, e)))

    left : List Content
    left = left_by (fields_of classes b.class) r.state r.ending b.cowns

    within : (n : ℕ) → n < length s.contents → n < length w.told.contents
    within n l = omega (arith, l, rests.contents)

    at_i : get_or u.told.runs i None ≡ Some r
    at_i = ap (λ (t : Told). get_or t.runs i None) told
        ∙ get_set w.told.runs i (Some r) None (omega (arith, slice_get_within s.behaviours i b there, rests.runs))

    at_other : (j : ℕ) → j ≢ i → get_or u.told.runs j None ≡ get_or w.told.runs j None
    at_other j d = ap (λ (t : Told). get_or t.runs j None) told ∙ get_or-set_other w.told.runs i j (Some r) None d

    names : (n : ℕ) → In b.cowns n → In (cowns_of s.behaviours i) n
    names n a = subst (λ o. In (cowns_in o) n) (sym there) a

    named : (n : ℕ) → In (cowns_of s.behaviours i) n → In b.cowns n
    named n a = subst (λ o. In (cowns_in o) n) there a

    still : (j : ℕ) → j ≢ i → IsRunning w j → IsRunning u j
    still j d p = (p.0, at_other j d ∙ p.1, p.2)

    was : (j : ℕ) → j ≢ i → IsRunning u j → IsRunning w j
    was j d p = (p.0, sym (at_other j d) ∙ p.1, p.2)

    differs : (j n : ℕ) → IsRunning w j → In (cowns_of s.behaviours j) n → (In b.cowns n → ⊥) → j ≢ i
    differs j n p a out e = out (named n (subst (λ k. In (cowns_of s.behaviours k) n) e a))

    taken_by : (n : ℕ) → n < length s.contents → get_or (put b.cowns left w.told.contents) n Empty ≡ Away → In b.cowns n ⊎ (In b.cowns n → ⊥)
        → (j : ℕ) × IsRunning u j × In (cowns_of s.behaviours j) n
    taken_by n l e (inl a) =
        (i, (r, at_i, left-away (fields_of classes b.class) r.state r.ending b.cowns w.told.contents n a (within n l) e), names n a)
    taken_by n l e (inr out) =
        let p = rests.taken n l (sym (get_put b.cowns left w.told.contents n out) ∙ e) in
        (p.0, still p.0 (differs p.0 n p.1 p.2 out) p.1, p.2)

    alone : (n j : ℕ) → IsRunning u j → In (cowns_of s.behaviours j) n → In b.cowns n → j ≢ i → (j < i) ⊎ (i < j) → ⊥
    alone n j p a x d (inl l) =
        not_two (has_ended (get_or u.told.runs j None))
        (g.world.ended i j (has_begun classes s u i r g at_i) l (share_by s.behaviours i j n (names n x) a))
        (running-not_ended (get_or u.told.runs j None) p.0 p.1 p.2)
    alone n j p a x d (inr l) =
        not_two (has_ended (get_or w.told.runs i None))
        (h.world.ended j i (has_begun classes s w j p.0 h (was j d p).1) l (share_by s.behaviours j i n a (names n x))) on

    away_by : (n j : ℕ) → n < length s.contents → IsRunning u j → In (cowns_of s.behaviours j) n → (j ≡ i) ⊎ (j ≢ i)
        → get_or (put b.cowns left w.told.contents) n Empty ≡ Away
    away_by n j l p a (inl e) =
        let same : p.0 ≡ r = some_is p.0 r (sym p.1 ∙ ap (λ k. get_or u.told.runs k None) e ∙ at_i) in
        left-runs (fields_of classes b.class) r.state r.ending b.cowns w.told.contents n
        (named n (subst (λ k. In (cowns_of s.behaviours k) n) e a)) (within n l) (ap (λ (q : Ran). q.ending) (sym same) ∙ p.2)
    away_by n j l p a (inr d) = other (in_or_not b.cowns n)
      where
        other : In b.cowns n ⊎ (In b.cowns n → ⊥) → get_or (put b.cowns left w.told.contents) n Empty ≡ Away
        other (inl x) = absurd (alone n j p a x d (either_less j i d))
        other (inr out) = get_put b.cowns left w.told.contents n out ∙ rests.away n j l (was j d p) a

event-rests : (classes : List Class) (s : Setting) (w : World) (i : ℕ) → NoneTwice s → Stands classes s w → Rests s w
    → Rests s (event classes s.behaviours i w)
event-rests classes s w i twice h rests = by (slice_get s.behaviours i) (get_or w.told.runs i None) refl refl (event-keeps classes s w i twice h)
  where
    if_may : (t : Bool) (b : Behaviour) → slice_get s.behaviours i ≡ Some b → get_or w.told.runs i None ≡ None
        → Stands classes s (if t then begins classes i b w else w) → Rests s (if t then begins classes i b w else w)
    if_may true b there none g =
        tell-rests classes s w (begins classes i b w) i b (run_of classes b (contents_at w.told.contents b.cowns) 0) h g there
        (ap has_ended none) refl rests
    if_may false b there none g = rests

    if_runs : (e : Ending) (b : Behaviour) (r : Ran) → r.ending ≡ e → slice_get s.behaviours i ≡ Some b → get_or w.told.runs i None ≡ Some r
        → Stands classes s (event_by classes i b r e w) → Rests s (event_by classes i b r e w)
    if_runs Running b r e there told g =
        tell-rests classes s w (steps_on classes i b r w) i b (one_more classes r) h g there (ap has_ended told ∙ ap is_over e) refl rests
    if_runs Done b r e there told g = rests
    if_runs (Stopped kind line) b r e there told g = rests

    by : (o : Option Behaviour) (run : Option Ran) → slice_get s.behaviours i ≡ o → get_or w.told.runs i None ≡ run
        → Stands classes s (event_of classes s.behaviours i o run w) → Rests s (event_of classes s.behaviours i o run w)
    by None run there told g = rests
    by (Some b) None there told g = if_may (may_begin s.behaviours w.told.runs i) b there told g
    by (Some b) (Some r) there told g = if_runs r.ending b r refl there told g

held-length : (cs : List CargoList) → length (map Held cs) ≡ length cs
held-length [] = refl
held-length (c ∷ cs) = ap suc (held-length cs)

held-not_away : (cs : List CargoList) (n : ℕ) → get_or (map Held cs) n Empty ≡ Away → ⊥
held-not_away [] n e = cc
held-not_away (c ∷ cs) zero e = cc
held-not_away (c ∷ cs) (suc n) e = held-not_away cs n e

first-rests : (s : Setting) → Rests s (first_world s)
first-rests s = record {
  contents = held-length s.contents;
  runs = length-replicate (length s.behaviours) none;
  taken = λ n l e. absurd (held-not_away s.contents n e);
  away = λ n i l p a. absurd (no_some (get_or (replicate (length s.behaviours) None) i None) p.0 (none-replicate (length s.behaviours) i) p.1);
}
  where
    none : Option Ran
    none = None

after-rests : (classes : List Class) (s : Setting) (schedule : List ℕ) (w : World) → NoneTwice s → Stands classes s w → Rests s w
    → Rests s (after classes s.behaviours schedule w)
after-rests classes s [] w twice h rests = rests
after-rests classes s (i ∷ is) w twice h rests =
    after-rests classes s is (event classes s.behaviours i w) twice (event-keeps classes s w i twice h) (event-rests classes s w i twice h rests)

false_if : (x : Bool) → (x ≡ true → ⊥) → x ≡ false
false_if true h = absurd (h refl)
false_if false h = refl

pub separate : (classes : List Class) (s : Setting) (w : World) → Stands classes s w → Rests s w → Separate s w
separate classes s w h rests = record {
  one = λ i k p q d. false_if (share s.behaviours i k) (λ sh. by i k p q sh (either_less i k d));
  taken = rests.taken;
  away = rests.away;
}
  where
    by : (i k : ℕ) → IsRunning w i → IsRunning w k → share s.behaviours i k ≡ true → (i < k) ⊎ (k < i) → ⊥
    by i k p q sh (inr l) = apart_running classes s w h i k p q l sh
    by i k p q sh (inl l) = apart_running classes s w h k i q p l (share_sym s.behaviours i k sh)

pub rests_after : (classes : List Class) (s : Setting) (schedule : List ℕ) → NoneTwice s → Rests s (world_after classes s schedule)
rests_after classes s schedule twice = after-rests classes s schedule (first_world s) twice (first-stands classes s) (first-rests s)
