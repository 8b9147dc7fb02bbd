-- What the event of a number does to a world, and how many cowns it has.
use Rattle.std.proofs.Common.{◌≡◌, ℕ, suc, ◌<◌, ◌≤◌, ◌⊎◌, inl, inr, Bool, true, false, List, [], ◌∷◌, ◌++◌, length, get_or, set, map, Option, Some}
use Rattle.std.proofs.Common.{None, slice_get, refl, sym, ap, ◌∙◌, arith}
use Rattle.std.specs.Prelude.{if◌then◌else◌}
use Rattle.std.proofs.lemmas.List.{length-set, length-map, length-replicate, set-get_or}
use Rattle.rg_tree.specs.Tree.{Class}
use Rattle.rg_rules.specs.Runs.{Ending, Running, Done, Stopped, Ran}
use Rattle.rg_cown.specs.Cargo.{CargoList}
use Rattle.rg_plan.specs.Plans.{Turn as Behaviour, PlanOf}
use Rattle.rg_plan.specs.declared.cown.Cown.{Cown}
use Rattle.rg_sched_atomic.specs.Numbers.{In}
use Rattle.rg_sched_atomic.specs.Contents.{Content, Away, Empty, Held, rest_of, first_of, put}
use Rattle.rg_sched_atomic.specs.Settings.{Setting, start_contents, setting_of}
use Rattle.rg_sched_atomic.specs.Atomic.{World}
use Rattle.rg_sched_atomic.specs.Events.{may_begin, begins, steps_on, event_by, event_of, event, after, first_world, world_after}
use Rattle.rg_world.proofs.Lists.{set-past, within_or_past}

-- one event more

pub after-push : (classes : List Class) (bs : List Behaviour) (schedule : List ℕ) (i : ℕ) (w : World)
    → after classes bs (schedule ++ i ∷ []) w ≡ event classes bs i (after classes bs schedule w)
after-push classes bs [] i w = refl
after-push classes bs (j ∷ schedule) i w = after-push classes bs schedule i (event classes bs j w)

-- what it does

pub waits : (classes : List Class) (bs : List Behaviour) (i : ℕ) (b : Behaviour) (w : World) (may : Bool) → slice_get bs i ≡ Some b
    → get_or w.told.runs i None ≡ None → may_begin bs w.told.runs i ≡ may
    → event classes bs i w ≡ (if may then begins classes i b w else w)
waits classes bs i b w may there none is =
    ap (λ o. event_of classes bs i o (get_or w.told.runs i None) w) there ∙ ap (λ o. event_of classes bs i (Some b) o w) none
    ∙ ap (λ (z : Bool). if z then begins classes i b w else w) is

runs : (classes : List Class) (bs : List Behaviour) (i : ℕ) (b : Behaviour) (w : World) (r : Ran) (e : Ending) → slice_get bs i ≡ Some b
    → get_or w.told.runs i None ≡ Some r → r.ending ≡ e
    → event classes bs i w ≡ event_by classes i b r e w
runs classes bs i b w r e there some is =
    ap (λ o. event_of classes bs i o (get_or w.told.runs i None) w) there ∙ ap (λ o. event_of classes bs i (Some b) o w) some
    ∙ ap (λ (z : Ending). event_by classes i b r z w) is

pub goes : (classes : List Class) (bs : List Behaviour) (i : ℕ) (b : Behaviour) (w : World) (r : Ran) → slice_get bs i ≡ Some b
    → get_or w.told.runs i None ≡ Some r → r.ending ≡ Running
    → event classes bs i w ≡ steps_on classes i b r w
goes classes bs i b w r there some is = runs classes bs i b w r Running there some is

pub done-stays : (classes : List Class) (bs : List Behaviour) (i : ℕ) (b : Behaviour) (w : World) (r : Ran) → slice_get bs i ≡ Some b
    → get_or w.told.runs i None ≡ Some r → r.ending ≡ Done → event classes bs i w ≡ w
done-stays classes bs i b w r there some is = runs classes bs i b w r Done there some is

pub stopped-stays : (classes : List Class) (bs : List Behaviour) (i : ℕ) (b : Behaviour) (w : World) (r : Ran) (kind : _) (line : ℕ)
    → slice_get bs i ≡ Some b → get_or w.told.runs i None ≡ Some r → r.ending ≡ Stopped kind line → event classes bs i w ≡ w
stopped-stays classes bs i b w r kind line there some is = runs classes bs i b w r (Stopped kind line) there some is

-- the cowns that there are stay

length-put : (ns : List ℕ) (xs cs : List Content) → length (put ns xs cs) ≡ length cs
length-put [] xs cs = refl
length-put (n ∷ ns) xs cs = length-put ns (rest_of xs) (set cs n (first_of xs)) ∙ length-set cs n (first_of xs)

event-length : (classes : List Class) (bs : List Behaviour) (i : ℕ) (w : World) → length (event classes bs i w).told.contents ≡ length w.told.contents
event-length classes bs i w = by (slice_get bs i) (get_or w.told.runs i None)
  where
    if_may : (z : Bool) (b : Behaviour) → length (if z then begins classes i b w else w).told.contents ≡ length w.told.contents
    if_may true b = length-put b.cowns _ w.told.contents
    if_may false b = refl

    if_runs : (e : Ending) (b : Behaviour) (r : Ran) → length (event_by classes i b r e w).told.contents ≡ length w.told.contents
    if_runs Running b r = length-put b.cowns _ w.told.contents
    if_runs Done b r = refl
    if_runs (Stopped kind line) b r = refl

    by : (o : Option Behaviour) (run : Option Ran) → length (event_of classes bs i o run w).told.contents ≡ length w.told.contents
    by None run = refl
    by (Some b) None = if_may (may_begin bs w.told.runs i) b
    by (Some b) (Some r) = if_runs r.ending b r

after-length : (classes : List Class) (bs : List Behaviour) (schedule : List ℕ) (w : World)
    → length (after classes bs schedule w).told.contents ≡ length w.told.contents
after-length classes bs [] w = refl
after-length classes bs (i ∷ schedule) w = after-length classes bs schedule (event classes bs i w) ∙ event-length classes bs i w

pub start-length : (classes : List Class) (cowns : List Cown) (images : List CargoList) → length images ≡ length cowns
    → length (start_contents classes cowns images) ≡ length cowns
start-length classes [] images same = refl
start-length classes (c ∷ cowns) [] same = absurd (omega (arith, same))
start-length classes (c ∷ cowns) (x ∷ images) same = ap suc (start-length classes cowns images (omega (arith, same)))

pub contents-length : (classes : List Class) (p : PlanOf) (images : List CargoList) (schedule : List ℕ) → length images ≡ length p.cowns
    → length (world_after classes (setting_of classes p images) schedule).told.contents ≡ length p.cowns
contents-length classes p images schedule same =
    let s = setting_of classes p images in
    after-length classes s.behaviours schedule (first_world s) ∙ length-map s.contents Held ∙ start-length classes p.cowns images same

-- contents that are away already

set-away : (cs : List Content) (n : ℕ) → (n < length cs → get_or cs n Empty ≡ Away) → set cs n Away ≡ cs
set-away cs n h = by (within_or_past n (length cs))
  where
    by : (n < length cs) ⊎ (length cs ≤ n) → set cs n Away ≡ cs
    by (inl l) = ap (set cs n) (sym (h l)) ∙ set-get_or cs n Empty
    by (inr l) = set-past cs n Away l

pub put-away : (ns : List ℕ) (cs : List Content) → ((n : ℕ) → In ns n → n < length cs → get_or cs n Empty ≡ Away) → put ns (map (λ n. Away) ns) cs ≡ cs
put-away [] cs h = refl
put-away (n ∷ ns) cs h =
    let same = set-away cs n (h n (inl refl)) in
    ap (put ns (map (λ n. Away) ns)) same ∙ put-away ns cs (λ k a l. h k (inr a) l)

-- nothing that is put leaves all of them empty
pub put-none : (ns : List ℕ) (cs : List Content) → put ns [] cs ≡ put ns (map (λ n. Empty) ns) cs
put-none [] cs = refl
put-none (n ∷ ns) cs = put-none ns (set cs n Empty)

-- the behaviours that there are stay

event-runs : (classes : List Class) (bs : List Behaviour) (i : ℕ) (w : World) → length (event classes bs i w).told.runs ≡ length w.told.runs
event-runs classes bs i w = by (slice_get bs i) (get_or w.told.runs i None)
  where
    if_may : (z : Bool) (b : Behaviour) → length (if z then begins classes i b w else w).told.runs ≡ length w.told.runs
    if_may true b = length-set w.told.runs i _
    if_may false b = refl

    if_runs : (e : Ending) (b : Behaviour) (r : Ran) → length (event_by classes i b r e w).told.runs ≡ length w.told.runs
    if_runs Running b r = length-set w.told.runs i _
    if_runs Done b r = refl
    if_runs (Stopped kind line) b r = refl

    by : (o : Option Behaviour) (run : Option Ran) → length (event_of classes bs i o run w).told.runs ≡ length w.told.runs
    by None run = refl
    by (Some b) None = if_may (may_begin bs w.told.runs i) b
    by (Some b) (Some r) = if_runs r.ending b r

after-runs : (classes : List Class) (bs : List Behaviour) (schedule : List ℕ) (w : World)
    → length (after classes bs schedule w).told.runs ≡ length w.told.runs
after-runs classes bs [] w = refl
after-runs classes bs (i ∷ schedule) w = after-runs classes bs schedule (event classes bs i w) ∙ event-runs classes bs i w

pub runs-length : (classes : List Class) (s : Setting) (schedule : List ℕ) → length (world_after classes s schedule).told.runs ≡ length s.behaviours
runs-length classes s schedule =
    let none : Option Ran = None in
    after-runs classes s.behaviours schedule (first_world s) ∙ length-replicate (length s.behaviours) none
