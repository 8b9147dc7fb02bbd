-- A behaviour gets other steps, in the middle of the order in which behaviours began; one more begins.
use Rattle.std.proofs.Common.{◌≡◌, ◌≢◌, ℕ, zero, suc, ◌<◌, inl, inr, List, [], ◌∷◌, ◌++◌, length, get_or, set, Option, Some, None, slice_get}
use Rattle.std.proofs.Common.{refl, sym, ap, ◌∙◌, subst}
use Rattle.std.specs.Prelude.{slice_index}
use Rattle.std.proofs.lemmas.List.{get_or-set_other, set-set}
use Rattle.rg_tree.specs.Tree.{Class}
use Rattle.rg_rules.specs.Types.{fields_of}
use Rattle.rg_rules.specs.Runs.{Ran}
use Rattle.rg_plan.specs.Plans.{Turn as Behaviour}
use Rattle.rg_sched_atomic.specs.Numbers.{In, Distinct}
use Rattle.rg_sched_atomic.specs.Contents.{Content, contents_at, left_by}
use Rattle.rg_sched_atomic.specs.Behaviours.{run_of}
use Rattle.rg_sched_atomic.specs.Atomic.{Told, tell, do_one, do_all}
use Rattle.rg_sched_atomic.proofs.Lists.{Apart, apart_sym, set_apart, get_set, put_put, put_again, contents_stay}

told_is : (a b : Told) → a.runs ≡ b.runs → a.contents ≡ b.contents → a ≡ b
told_is a b p q =
    let F : List (Option Ran) → Told = λ z. record { runs = z; contents = a.contents } in
    let G : List Content → Told = λ z. record { runs = b.runs; contents = z } in
    ap F p ∙ ap G q

-- a later run of the same behaviour is all that is told of it
pub tell_again : (classes : List Class) (i : ℕ) (b : Behaviour) (r q : Ran) (t : Told) → Distinct b.cowns
    → tell classes i b q (tell classes i b r t) ≡ tell classes i b q t
tell_again classes i b r q t d =
    let fs = fields_of classes b.class in
    told_is (tell classes i b q (tell classes i b r t)) (tell classes i b q t) (set-set t.runs i (Some r) (Some q))
    (put_again b.cowns (left_by fs r.state r.ending b.cowns) (left_by fs q.state q.ending b.cowns) t.contents d)

-- runs of two behaviours that share no cown are told in either order
tell_either : (classes : List Class) (i j : ℕ) (b d : Behaviour) (r q : Ran) (t : Told) → i ≢ j → Apart d.cowns b.cowns
    → tell classes j d q (tell classes i b r t) ≡ tell classes i b r (tell classes j d q t)
tell_either classes i j b d r q t n apart =
    told_is (tell classes j d q (tell classes i b r t)) (tell classes i b r (tell classes j d q t))
    (set_apart t.runs i j (Some r) (Some q) n)
    (put_put d.cowns b.cowns (left_by (fields_of classes d.class) q.state q.ending d.cowns)
    (left_by (fields_of classes b.class) r.state r.ending b.cowns) t.contents apart)

-- a behaviour that shares no cown with another one takes what it took, whatever the other one did
pub one_commutes : (classes : List Class) (i j n : ℕ) (b d : Behaviour) (r : Ran) (t : Told) → i ≢ j → Apart d.cowns b.cowns
    → do_one classes j n (Some d) (tell classes i b r t) ≡ tell classes i b r (do_one classes j n (Some d) t)
one_commutes classes i j n b d r t differ apart =
    let left = left_by (fields_of classes b.class) r.state r.ending b.cowns in
    let same = contents_stay d.cowns b.cowns left t.contents (apart_sym d.cowns b.cowns apart) in
    ap (λ z. tell classes j d (run_of classes d z n) (tell classes i b r t)) same
    ∙ tell_either classes i j b d r (run_of classes d (contents_at t.contents d.cowns) n) t differ apart

-- none of these behaviours is a given one, and none shares a cown with it
abbrev pub Clear : List Behaviour → (number : ℕ) → Behaviour → List ℕ → Type 0
Clear bs i b js = (j : ℕ) → In js j → (i ≢ j) × ((d : Behaviour) → slice_get bs j ≡ Some d → Apart d.cowns b.cowns)

pub do_append : (classes : List Class) (bs : List Behaviour) (is js steps : List ℕ) (t : Told)
    → do_all classes bs (is ++ js) steps t ≡ do_all classes bs js steps (do_all classes bs is steps t)
do_append classes bs [] js steps t = refl
do_append classes bs (i ∷ is) js steps t = do_append classes bs is js steps (do_one classes i (slice_index steps i) (slice_get bs i) t)

-- other steps of a behaviour that isn't among these say nothing
others_do : (classes : List Class) (bs : List Behaviour) (js steps : List ℕ) (i m : ℕ) (t : Told) → (In js i → ⊥)
    → do_all classes bs js (set steps i m) t ≡ do_all classes bs js steps t
others_do classes bs [] steps i m t out = refl
others_do classes bs (j ∷ js) steps i m t out =
    let same : slice_index (set steps i m) j ≡ slice_index steps j = get_or-set_other steps i j m 0 (λ e. out (inl (sym e))) in
    ap (λ z. do_all classes bs js (set steps i m) (do_one classes j z (slice_get bs j) t)) same
    ∙ others_do classes bs js steps i m (do_one classes j (slice_index steps j) (slice_get bs j) t) (λ a. out (inr a))

-- behaviours that began later do the same, whatever a running one that shares no cown with them did
all_commute : (classes : List Class) (bs : List Behaviour) (js steps : List ℕ) (i : ℕ) (b : Behaviour) (r : Ran) (t : Told) → Clear bs i b js
    → do_all classes bs js steps (tell classes i b r t) ≡ tell classes i b r (do_all classes bs js steps t)
all_commute classes bs [] steps i b r t clear = refl
all_commute classes bs (j ∷ js) steps i b r t clear =
    ap (do_all classes bs js steps) (by (slice_get bs j) (λ d e. (clear j (inl refl)).1 d e))
    ∙ all_commute classes bs js steps i b r (do_one classes j (slice_index steps j) (slice_get bs j) t) (λ k a. clear k (inr a))
  where
    by : (o : Option Behaviour) → ((d : Behaviour) → o ≡ Some d → Apart d.cowns b.cowns)
        → do_one classes j (slice_index steps j) o (tell classes i b r t) ≡ tell classes i b r (do_one classes j (slice_index steps j) o t)
    by None apart = refl
    by (Some d) apart = one_commutes classes i j (slice_index steps j) b d r t (clear j (inl refl)).0 (apart d refl)

-- the run of a behaviour in the middle of an order, with so many steps
abbrev pub run_at : List Class → List Behaviour → (front steps : List ℕ) → Behaviour → (turns : ℕ) → Told → Ran
run_at classes bs front steps b m t = run_of classes b (contents_at (do_all classes bs front steps t).contents b.cowns) m

-- A behaviour gets other steps, where those that began behind it share no cown with it: that is told of it, on the contents that it took, and
-- all else stays as it was told.
pub other_steps : (classes : List Class) (bs : List Behaviour) (front back steps : List ℕ) (i m : ℕ) (b : Behaviour) (t : Told)
    → slice_get bs i ≡ Some b → Distinct b.cowns → i < length steps → (In front i → ⊥) → (In back i → ⊥) → Clear bs i b back
    → do_all classes bs (front ++ i ∷ back) (set steps i m) t
    ≡ tell classes i b (run_at classes bs front steps b m t) (do_all classes bs (front ++ i ∷ back) steps t)
other_steps classes bs front back steps i m b t there d l out past clear =
    let first = do_all classes bs front steps t in
    let old = run_at classes bs front steps b (slice_index steps i) t in
    let new = run_at classes bs front steps b m t in
    let one : (n : ℕ) → do_one classes i n (slice_get bs i) first ≡ tell classes i b (run_at classes bs front steps b n t) first =
    (λ n. ap (λ z. do_one classes i n z first) there) in
    let left : do_all classes bs (front ++ i ∷ back) (set steps i m) t ≡ tell classes i b new (do_all classes bs back steps first) =
    do_append classes bs front (i ∷ back) (set steps i m) t
    ∙ ap (do_all classes bs (i ∷ back) (set steps i m)) (others_do classes bs front steps i m t out)
    ∙ ap (λ z. do_all classes bs back (set steps i m) (do_one classes i z (slice_get bs i) first)) (get_set steps i m 0 l)
    ∙ ap (do_all classes bs back (set steps i m)) (one m)
    ∙ others_do classes bs back steps i m (tell classes i b new first) past
    ∙ all_commute classes bs back steps i b new first clear in
    let right : do_all classes bs (front ++ i ∷ back) steps t ≡ tell classes i b old (do_all classes bs back steps first) =
    do_append classes bs front (i ∷ back) steps t ∙ ap (do_all classes bs back steps) (one (slice_index steps i))
    ∙ all_commute classes bs back steps i b old first clear in
    left ∙ sym (tell_again classes i b old new (do_all classes bs back steps first) d) ∙ ap (tell classes i b new) (sym right)

-- one behaviour more begins: what was told stays, and it is told behind it
pub one_begins : (classes : List Class) (bs : List Behaviour) (began steps : List ℕ) (i : ℕ) (t : Told)
    → do_all classes bs (began ++ i ∷ []) steps t ≡ do_one classes i (slice_index steps i) (slice_get bs i) (do_all classes bs began steps t)
one_begins classes bs began steps i t = do_append classes bs began (i ∷ []) steps t

-- What is told of a behaviour

-- the number of runs that are told stays
do_one-length : (classes : List Class) (i n : ℕ) (o : Option Behaviour) (t : Told) → length (do_one classes i n o t).runs ≡ length t.runs
do_one-length classes i n None t = refl
do_one-length classes i n (Some b) t = set-length t.runs i (Some (run_of classes b (contents_at t.contents b.cowns) n))
  where
    set-length : {X : Type 0} → (xs : List X) (k : ℕ) (x : X) → length (set xs k x) ≡ length xs
    set-length [] k x = refl
    set-length (y ∷ ys) zero x = refl
    set-length (y ∷ ys) (suc k) x = ap suc (set-length ys k x)

pub do_all-length : (classes : List Class) (bs : List Behaviour) (is steps : List ℕ) (t : Told) →
    length (do_all classes bs is steps t).runs ≡ length t.runs
do_all-length classes bs [] steps t = refl
do_all-length classes bs (i ∷ is) steps t =
    do_all-length classes bs is steps (do_one classes i (slice_index steps i) (slice_get bs i) t)
    ∙ do_one-length classes i (slice_index steps i) (slice_get bs i) t

-- what is told of a behaviour that isn't among these stays
pub do_one-other : (classes : List Class) (i k n : ℕ) (o : Option Behaviour) (t : Told) → i ≢ k →
    get_or (do_one classes i n o t).runs k None ≡ get_or t.runs k None
do_one-other classes i k n None t differ = refl
do_one-other classes i k n (Some b) t differ =
    get_or-set_other t.runs i k (Some (run_of classes b (contents_at t.contents b.cowns) n)) None (λ e. differ (sym e))

pub do_all-other : (classes : List Class) (bs : List Behaviour) (is steps : List ℕ) (k : ℕ) (t : Told) → (In is k → ⊥)
    → get_or (do_all classes bs is steps t).runs k None ≡ get_or t.runs k None
do_all-other classes bs [] steps k t out = refl
do_all-other classes bs (i ∷ is) steps k t out =
    do_all-other classes bs is steps k (do_one classes i (slice_index steps i) (slice_get bs i) t) (λ a. out (inr a))
    ∙ do_one-other classes i k (slice_index steps i) (slice_get bs i) t (λ e. out (inl (sym e)))

-- of a behaviour in the middle of an order its run is told
pub run_told : (classes : List Class) (bs : List Behaviour) (front back steps : List ℕ) (i : ℕ) (b : Behaviour) (t : Told)
    → slice_get bs i ≡ Some b → i < length t.runs → (In back i → ⊥)
    → get_or (do_all classes bs (front ++ i ∷ back) steps t).runs i None ≡ Some (run_at classes bs front steps b (slice_index steps i) t)
run_told classes bs front back steps i b t there l past =
    let first = do_all classes bs front steps t in
    let r = run_at classes bs front steps b (slice_index steps i) t in
    ap (λ (z : Told). get_or z.runs i None) (do_append classes bs front (i ∷ back) steps t)
    ∙ do_all-other classes bs back steps i (do_one classes i (slice_index steps i) (slice_get bs i) first) past
    ∙ ap (λ z. get_or (do_one classes i (slice_index steps i) z first).runs i None) there
    ∙ get_set first.runs i (Some r) None (subst (λ n. i < n) (sym (do_all-length classes bs front steps t)) l)
