-- What holds of a world is kept by each event.
use Rattle.std.proofs.Common.{◌≡◌, ◌≢◌, ℕ, zero, suc, ◌+◌, ◌<◌, ◌⊎◌, inl, inr, Bool, true, false, not, ◌||◌, List, [], ◌∷◌, ◌++◌, length, get_or, set}
use Rattle.std.proofs.Common.{Option, Some, None, slice_get, refl, sym, ap, ◌∙◌, subst, arith, replicate, unwrap_or}
use Rattle.std.specs.Prelude.{slice_index, if◌then◌else◌}
use Rattle.std.specs.List.{list_any, range_with_len}
use Rattle.std.proofs.lemmas.Bool.Decides.{nat_tests}
use Rattle.std.proofs.lemmas.List.{get_or-set_other, length-set, length-replicate}
use Rattle.std.proofs.lemmas.List.FromFn.{length-range_with_len, get_or-range_with_len}
use Rattle.std.proofs.lemmas.List.Sums.{AllPass-from_list_all}
use Rattle.std.proofs.lemmas.Option.{slice_get_within, unwrap_or-slice_get}
use Rattle.rg_tree.specs.Tree.{Class}
use Rattle.rg_rules.specs.Runs.{Ending, Running, Done, Stopped, Ran}
use Rattle.rg_rules.proofs.Run.{plain_from-suc}
use Rattle.rg_plan.specs.Plans.{Turn as Behaviour, among}
use Rattle.rg_sched_atomic.specs.Numbers.{In, Distinct}
use Rattle.rg_sched_atomic.specs.Contents.{Content}
use Rattle.rg_sched_atomic.specs.Behaviours.{run_of, cowns_in, cowns_of, share, is_over, has_ended}
use Rattle.rg_sched_atomic.specs.Settings.{Setting}
use Rattle.rg_sched_atomic.specs.Atomic.{Told, at_first, tell, do_one, do_all, atomic, World, WorldOf}
use Rattle.rg_sched_atomic.specs.Events.{may_begin, begins, one_more, steps_on, event_by, event_of, event, after, first_world, world_after}
use Rattle.rg_sched_atomic.specs.Laws.{NoneTwice}
use Rattle.rg_sched_atomic.proofs.Lists.{in_front, in_back, in_either, Around, around, not_in_front, not_in_back, not_both, distinct_push}
use Rattle.rg_sched_atomic.proofs.Commutes.{Clear, run_at, other_steps, one_begins, do_all-other, do_one-other, run_told}

-- Small facts

pub not_two : (x : Bool) → x ≡ true → x ≡ false → ⊥
not_two x p q = cc

pub some_is : {A : Type 0} → (a b : A) → Some a ≡ Some b → a ≡ b
some_is a b e = ap (λ o. unwrap_or o a) e

pub no_some : {A : Type 0} → (o : Option A) (a : A) → o ≡ None → o ≡ Some a → ⊥
no_some o a p q = cc

pub either_less : (a b : ℕ) → a ≢ b → (a < b) ⊎ (b < a)
either_less zero zero d = absurd (d refl)
either_less zero (suc b) d = inl (omega arith)
either_less (suc a) zero d = inr (omega arith)
either_less (suc a) (suc b) d = by (either_less a b (λ e. d (ap suc e)))
  where
    by : (a < b) ⊎ (b < a) → (suc a < suc b) ⊎ (suc b < suc a)
    by (inl l) = inl (omega (arith, l))
    by (inr l) = inr (omega (arith, l))

pub in_or_not : (xs : List ℕ) (n : ℕ) → In xs n ⊎ (In xs n → ⊥)
in_or_not [] n = inr (λ (h : In [] n). h)
in_or_not (x ∷ xs) n = by (same_or_not n x) (in_or_not xs n)
  where
    same_or_not : (a b : ℕ) → (a ≡ b) ⊎ (a ≢ b)
    same_or_not zero zero = inl refl
    same_or_not zero (suc b) = inr (λ e. absurd (omega (arith, e)))
    same_or_not (suc a) zero = inr (λ e. absurd (omega (arith, e)))
    same_or_not (suc a) (suc b) = up (same_or_not a b)
      where
        up : (a ≡ b) ⊎ (a ≢ b) → (suc a ≡ suc b) ⊎ (suc a ≢ suc b)
        up (inl e) = inl (ap suc e)
        up (inr d) = inr (λ e. d (omega (arith, e)))

    neither : n ≢ x → (In xs n → ⊥) → In (x ∷ xs) n → ⊥
    neither d out (inl e) = d e
    neither d out (inr h) = out h

    by : (n ≡ x) ⊎ (n ≢ x) → In xs n ⊎ (In xs n → ⊥) → In (x ∷ xs) n ⊎ (In (x ∷ xs) n → ⊥)
    by (inl e) h = inl (inl e)
    by (inr d) (inl h) = inl (inr h)
    by (inr d) (inr out) = inr (neither d out)

pub none-replicate : (n k : ℕ) → ◌≡◌ {A = Option Ran} (get_or (replicate n None) k None) None
none-replicate zero k = refl
none-replicate (suc n) zero = refl
none-replicate (suc n) (suc k) = none-replicate n k

zero-replicate : (n k : ℕ) → slice_index (replicate n 0) k ≡ 0
zero-replicate zero k = refl
zero-replicate (suc n) zero = refl
zero-replicate (suc n) (suc k) = zero-replicate n k

-- the last of a list that is split is its last element, or stands in front of it
pub record Earlier (xs front : List ℕ) (j : ℕ) : Type 0 where
  pub back : List ℕ
  pub is : xs ≡ front ++ j ∷ back

abbrev tail_of : List ℕ → List ℕ
tail_of [] = []
tail_of (x ∷ xs) = xs

abbrev head_of : List ℕ → ℕ
head_of [] = 0
head_of (x ∷ xs) = x

not_empty : (xs : List ℕ) (n : ℕ) (ys : List ℕ) → [] ≡ xs ++ n ∷ ys → ⊥
not_empty [] n ys e = cc
not_empty (x ∷ xs) n ys e = cc

last_split : (xs front back : List ℕ) (i j : ℕ) → xs ++ i ∷ [] ≡ front ++ j ∷ back → ((xs ≡ front) × (i ≡ j)) ⊎ Earlier xs front j
last_split [] [] back i j e = inl (refl, ap head_of e)
last_split [] (f ∷ fs) back i j e = absurd (not_empty fs j back (ap tail_of e))
last_split (x ∷ xs) [] back i j e = inr (record { back = xs; is = ap (λ y. y ∷ xs) (ap head_of e) })
last_split (x ∷ xs) (f ∷ fs) back i j e = by (last_split xs fs back i j (ap tail_of e))
  where
    first : x ≡ f
    first = ap head_of e

    by : ((xs ≡ fs) × (i ≡ j)) ⊎ Earlier xs fs j → ((x ∷ xs ≡ f ∷ fs) × (i ≡ j)) ⊎ Earlier (x ∷ xs) (f ∷ fs) j
    by (inl h) = inl (ap (λ y. y ∷ xs) first ∙ ap (λ ys. f ∷ ys) h.0, h.1)
    by (inr h) = inr (record { back = h.back; is = ap (λ y. y ∷ xs) first ∙ ap (λ ys. f ∷ ys) h.is })

-- Behaviours that share a cown

among-in : (ms : List ℕ) (n : ℕ) → In ms n → among ms n ≡ true
among-in [] n h = absurd h
among-in (m ∷ ms) n (inl e) = grind (arith, nat_tests)
among-in (m ∷ ms) n (inr h) = let r = among-in ms n h in grind (arith, nat_tests)

any-in : (ns ms : List ℕ) (n : ℕ) → In ns n → In ms n → list_any (among ms) ns ≡ true
any-in [] ms n h g = absurd h
any-in (k ∷ ns) ms n (inl e) g = let r = among-in ms k (subst (In ms) e g) in rw r refl
any-in (k ∷ ns) ms n (inr h) g = let r = any-in ns ms n h g in or-true (among ms k) (list_any (among ms) ns) r
  where
    or-true : (a b : Bool) → b ≡ true → (a || b) ≡ true
    or-true true b e = refl
    or-true false b e = e

pub share_by : (bs : List Behaviour) (i k n : ℕ) → In (cowns_of bs i) n → In (cowns_of bs k) n → share bs i k ≡ true
share_by bs i k n h g = any-in (cowns_of bs i) (cowns_of bs k) n h g

pub shares : (bs : List Behaviour) (i k : ℕ) (b d : Behaviour) → slice_get bs i ≡ Some b → slice_get bs k ≡ Some d → (n : ℕ) → In b.cowns n
    → In d.cowns n → share bs i k ≡ true
shares bs i k b d p q n h g =
    any-in (cowns_of bs i) (cowns_of bs k) n (subst (λ o. In (cowns_in o) n) (sym p) h) (subst (λ o. In (cowns_in o) n) (sym q) g)

pub zero-add : (k : ℕ) → 0 + k ≡ k
zero-add k = omega arith

-- a behaviour that begins: each lower-numbered one that shares a cown with it has ended
pub lower_ended : (bs : List Behaviour) (runs : List (Option Ran)) (i k : ℕ) → may_begin bs runs i ≡ true → k < i → share bs i k ≡ true
    → has_ended (get_or runs k None) ≡ true
lower_ended bs runs i k may l s =
    let test : ℕ → Bool = λ j. not (share bs i j) || has_ended (get_or runs j None) in
    let at : get_or (range_with_len 0 i) k 0 ≡ k = get_or-range_with_len 0 i k 0 l ∙ zero-add k in
    let passes = AllPass-from_list_all test (range_with_len 0 i) may k 0 (omega (arith, l, length-range_with_len 0 i)) in
    first (share bs i k) (has_ended (get_or runs k None)) s (subst (λ j. test j ≡ true) at passes)
  where
    first : (a b : Bool) → a ≡ true → (not a || b) ≡ true → b ≡ true
    first true b e h = h
    first false b e h = cc

-- What always holds

pub record Stands (classes : List Class) (s : Setting) (w : World) : Type 0 where
  pub world : WorldOf classes s w
  pub turns : length w.turns ≡ length s.behaviours
  pub there : (i : ℕ) → In w.began i → (b : Behaviour) × (slice_get s.behaviours i ≡ Some b)

-- of one that hasn't begun nothing is told
not_begun : (classes : List Class) (s : Setting) (w : World) (i : ℕ) → Stands classes s w → (In w.began i → ⊥) → get_or w.told.runs i None ≡ None
not_begun classes s w i h out =
    ap (λ (t : Told). get_or t.runs i None) h.world.told ∙ do_all-other classes s.behaviours w.began w.turns i (at_first s) out
    ∙ none-replicate (length s.behaviours) i

-- of one that has begun its run is told
begun : (classes : List Class) (s : Setting) (w : World) (i : ℕ) (b : Behaviour) (front back : List ℕ) → Stands classes s w
    → slice_get s.behaviours i ≡ Some b → w.began ≡ front ++ i ∷ back
    → get_or w.told.runs i None ≡ Some (run_at classes s.behaviours front w.turns b (slice_index w.turns i) (at_first s))
begun classes s w i b front back h there is =
    let none : Option Ran = None in
    ap (λ (t : Told). get_or t.runs i None) h.world.told
    ∙ ap (λ order. get_or (do_all classes s.behaviours order w.turns (at_first s)).runs i None) is
    ∙ run_told classes s.behaviours front back w.turns i b (at_first s) there
    (subst (λ n. i < n) (sym (length-replicate (length s.behaviours) none)) (slice_get_within s.behaviours i b there))
    (not_in_back front back i (subst Distinct is h.world.once))

pub has_begun : (classes : List Class) (s : Setting) (w : World) (i : ℕ) (r : Ran) → Stands classes s w → get_or w.told.runs i None ≡ Some r →
    In w.began i
has_begun classes s w i r h told = by (in_or_not w.began i)
  where
    by : In w.began i ⊎ (In w.began i → ⊥) → In w.began i
    by (inl a) = a
    by (inr out) = absurd (no_some (get_or w.told.runs i None) r (not_begun classes s w i h out) told)

pub is_not_begun : (classes : List Class) (s : Setting) (w : World) (i : ℕ) → Stands classes s w → get_or w.told.runs i None ≡ None → In w.began i → ⊥
is_not_begun classes s w i h none a =
    let b = h.there i a in let p = around w.began i a in
    no_some (get_or w.told.runs i None) (run_at classes s.behaviours p.front w.turns b.0 (slice_index w.turns i) (at_first s)) none
    (begun classes s w i b.0 p.front p.back h b.1 p.is)

pub ended-begun : (classes : List Class) (s : Setting) (w : World) (k : ℕ) → Stands classes s w → has_ended (get_or w.told.runs k None) ≡ true →
    In w.began k
ended-begun classes s w k h e = by (get_or w.told.runs k None) refl
  where
    by : (o : Option Ran) → get_or w.told.runs k None ≡ o → In w.began k
    by None is = let f : has_ended (get_or w.told.runs k None) ≡ false = ap has_ended is
        in absurd (not_two (has_ended (get_or w.told.runs k None)) e f)
    by (Some r) is = has_begun classes s w k r h is

-- A behaviour begins

begin-keeps : (classes : List Class) (s : Setting) (w : World) (i : ℕ) (b : Behaviour) → Stands classes s w → slice_get s.behaviours i ≡ Some b
    → get_or w.told.runs i None ≡ None → may_begin s.behaviours w.told.runs i ≡ true → Stands classes s (begins classes i b w)
begin-keeps classes s w i b h there none may = record {
  world = record {
    told = ap (do_one classes i 0 (Some b)) h.world.told
        ∙ ap (λ o. do_one classes i 0 o before) (sym there)
        ∙ ap (λ n. do_one classes i n (slice_get bs i) before) (sym (h.world.unbegun i out))
        ∙ sym (one_begins classes bs w.began w.turns i (at_first s));
    once = distinct_push w.began i h.world.once out;
    unbegun = λ k no. h.world.unbegun k (λ a. no (in_front w.began (i ∷ []) k a));
    behind = λ front back j k e l sh. behind_by front back j k l sh (last_split w.began front back i j e);
    ended = λ j k a l sh. stays k (ended_by j k l sh (in_either w.began (i ∷ []) j a));
  };
  turns = h.turns;
  there = λ j a. there_by j (in_either w.began (i ∷ []) j a);
}
  where
    bs : List Behaviour
    bs = s.behaviours

    before : Told
    before = atomic classes s w.began w.turns

    out : In w.began i → ⊥
    out = is_not_begun classes s w i h none

    behind_by : (front back : List ℕ) (j k : ℕ) → k < j → share s.behaviours j k ≡ true → ((w.began ≡ front) × (i ≡ j)) ⊎ Earlier w.began front j
        → In front k
    behind_by front back j k l sh (inl e) =
        let e2 = sym e.1 in
        subst (λ xs. In xs k) e.0 (ended-begun classes s w k h (lower_ended s.behaviours w.told.runs i k may (subst (λ n. k < n) e2 l)
        (subst (λ n. share s.behaviours n k ≡ true) e2 sh)))
    behind_by front back j k l sh (inr p) = h.world.behind front p.back j k p.is l sh

    ended_by : (j k : ℕ) → k < j → share s.behaviours j k ≡ true → In w.began j ⊎ In (i ∷ []) j → has_ended (get_or w.told.runs k None) ≡ true
    ended_by j k l sh (inl a) = h.world.ended j k a l sh
    ended_by j k l sh (inr (inl e)) =
        lower_ended s.behaviours w.told.runs i k may (subst (λ n. k < n) e l) (subst (λ n. share s.behaviours n k ≡ true) e sh)
    ended_by j k l sh (inr (inr a)) = absurd a

    stays : (k : ℕ) → has_ended (get_or w.told.runs k None) ≡ true → has_ended (get_or (do_one classes i 0 (Some b) w.told).runs k None) ≡ true
    stays k e =
        let differ : i ≢ k = λ (q : i ≡ k). not_two (has_ended (get_or w.told.runs k None)) e
        (ap (λ n. has_ended (get_or w.told.runs n None)) (sym q) ∙ ap has_ended none) in
        ap has_ended (do_one-other classes i k 0 (Some b) w.told differ) ∙ e

    there_by : (j : ℕ) → In w.began j ⊎ In (i ∷ []) j → (d : Behaviour) × (slice_get s.behaviours j ≡ Some d)
    there_by j (inl a) = h.there j a
    there_by j (inr (inl e)) = (b, ap (slice_get s.behaviours) e ∙ there)
    there_by j (inr (inr a)) = absurd a

-- A running behaviour makes a step

run-suc : (classes : List Class) (b : Behaviour) (cs : List Content) (n : ℕ) → run_of classes b cs (suc n) ≡ one_more classes (run_of classes b cs n)
run-suc classes b cs n = plain_from-suc classes n 0 _

-- none that began behind a running behaviour shares a cown with it
clear-behind : (classes : List Class) (s : Setting) (w : World) (i : ℕ) (b : Behaviour) (front back : List ℕ) → Stands classes s w
    → slice_get s.behaviours i ≡ Some b → w.began ≡ front ++ i ∷ back → has_ended (get_or w.told.runs i None) ≡ false → Clear s.behaviours i b back
clear-behind classes s w i b front back h there is runs j a = (differ, λ d e n x y. by d e n x y (either_less j i (λ q. differ (sym q))))
  where
    dist : Distinct (front ++ i ∷ back)
    dist = subst Distinct is h.world.once

    differ : i ≢ j
    differ q = not_in_back front back i dist (subst (In back) (sym q) a)

    began_j : In w.began j
    began_j = subst (λ xs. In xs j) (sym is) (in_back front (i ∷ back) j (inr a))

    by : (d : Behaviour) → slice_get s.behaviours j ≡ Some d → (n : ℕ) → In d.cowns n → In b.cowns n → (j < i) ⊎ (i < j) → ⊥
    by d e n x y (inl l) =
        not_both front back i j dist (h.world.behind front back i j is l (shares s.behaviours i j b d there e n y x)) a
    by d e n x y (inr l) =
        not_two (has_ended (get_or w.told.runs i None)) (h.world.ended j i began_j l (shares s.behaviours j i d b e there n x y)) runs

step-keeps : (classes : List Class) (s : Setting) (w : World) (i : ℕ) (b : Behaviour) (r : Ran) → NoneTwice s → Stands classes s w
    → slice_get s.behaviours i ≡ Some b → get_or w.told.runs i None ≡ Some r → is_over r.ending ≡ false → Stands classes s (steps_on classes i b r w)
step-keeps classes s w i b r twice h there told over = record {
  world = record {
    told = ap (λ (z : Ran). tell classes i b z w.told) more
        ∙ ap (tell classes i b (run_at classes bs p.front w.turns b (suc n) first))
        (h.world.told ∙ ap (λ order. do_all classes bs order w.turns first) p.is)
        ∙ sym (other_steps classes bs p.front p.back w.turns i (suc n) b first there own l (not_in_front p.front p.back i dist) past clear)
        ∙ ap (λ order. do_all classes bs order (set w.turns i (suc n)) first) (sym p.is);
    once = h.world.once;
    unbegun = λ k no. get_or-set_other w.turns i k (suc n) 0 (λ q. no (subst (In w.began) (sym q) inb)) ∙ h.world.unbegun k no;
    behind = h.world.behind;
    ended = λ j k a le sh. stays k (h.world.ended j k a le sh);
  };
  turns = length-set w.turns i (suc n) ∙ h.turns;
  there = h.there;
}
  where
    bs : List Behaviour
    bs = s.behaviours

    first : Told
    first = at_first s

    n : ℕ
    n = slice_index w.turns i

    inb : In w.began i
    inb = has_begun classes s w i r h told

    p : Around w.began i
    p = around w.began i inb

    dist : Distinct (p.front ++ i ∷ p.back)
    dist = subst Distinct p.is h.world.once

    past : In p.back i → ⊥
    past = not_in_back p.front p.back i dist

    l : i < length w.turns
    l = omega (arith, slice_get_within s.behaviours i b there, h.turns)

    own : Distinct b.cowns
    own = subst (λ (d : Behaviour). Distinct d.cowns) (sym (rw there at (unwrap_or-slice_get s.behaviours i b)))
        (twice i b (slice_get_within s.behaviours i b there))

    runs : has_ended (get_or w.told.runs i None) ≡ false
    runs = ap has_ended told ∙ over

    clear : Clear s.behaviours i b p.back
    clear = clear-behind classes s w i b p.front p.back h there p.is runs

    is_run : r ≡ run_at classes s.behaviours p.front w.turns b (slice_index w.turns i) (at_first s)
    is_run = some_is r _ (sym told ∙ begun classes s w i b p.front p.back h there p.is)

    more : one_more classes r ≡ run_at classes s.behaviours p.front w.turns b (suc (slice_index w.turns i)) (at_first s)
    more = ap (one_more classes) is_run ∙ sym (run-suc classes b _ (slice_index w.turns i))

    stays : (k : ℕ) → has_ended (get_or w.told.runs k None) ≡ true → has_ended (get_or (set w.told.runs i (Some (one_more classes r))) k None) ≡ true
    stays k e =
        let differ : k ≢ i =
        λ (q : k ≡ i). not_two (has_ended (get_or w.told.runs k None)) e (ap (λ m. has_ended (get_or w.told.runs m None)) q ∙ runs) in
        ap has_ended (get_or-set_other w.told.runs i k (Some (one_more classes r)) None differ) ∙ e

-- Each event keeps it

pub event-keeps : (classes : List Class) (s : Setting) (w : World) (i : ℕ) → NoneTwice s → Stands classes s w →
    Stands classes s (event classes s.behaviours i w)
event-keeps classes s w i twice h = by (slice_get s.behaviours i) (get_or w.told.runs i None) refl refl
  where
    if_may : (t : Bool) (b : Behaviour) → may_begin s.behaviours w.told.runs i ≡ t → slice_get s.behaviours i ≡ Some b →
        get_or w.told.runs i None ≡ None
        → Stands classes s (if t then begins classes i b w else w)
    if_may true b may there none = begin-keeps classes s w i b h there none may
    if_may false b may there none = h

    if_runs : (e : Ending) (b : Behaviour) (r : Ran) → r.ending ≡ e → slice_get s.behaviours i ≡ Some b → get_or w.told.runs i None ≡ Some r
        → Stands classes s (event_by classes i b r e w)
    if_runs Running b r e there told = step-keeps classes s w i b r twice h there told (ap is_over e)
    if_runs Done b r e there told = h
    if_runs (Stopped kind line) b r e there told = h

    by : (o : Option Behaviour) (run : Option Ran) → slice_get s.behaviours i ≡ o → get_or w.told.runs i None ≡ run
        → Stands classes s (event_of classes s.behaviours i o run w)
    by None run there told = h
    by (Some b) None there told = if_may (may_begin s.behaviours w.told.runs i) b refl there told
    by (Some b) (Some r) there told = if_runs r.ending b r refl there told

pub first-stands : (classes : List Class) (s : Setting) → Stands classes s (first_world s)
first-stands classes s = record {
  world = record {
    told = refl;
    once = tt;
    unbegun = λ i no. zero-replicate (length s.behaviours) i;
    behind = λ front back i k e l sh. absurd (not_empty front i back e);
    ended = λ i k (a : In [] i) l sh. absurd a;
  };
  turns = length-replicate (length s.behaviours) 0;
  there = λ i (a : In [] i). absurd a;
}

after-stands : (classes : List Class) (s : Setting) (schedule : List ℕ) (w : World) → NoneTwice s → Stands classes s w
    → Stands classes s (after classes s.behaviours schedule w)
after-stands classes s [] w twice h = h
after-stands classes s (i ∷ is) w twice h = after-stands classes s is (event classes s.behaviours i w) twice (event-keeps classes s w i twice h)

pub world_stands : (classes : List Class) (s : Setting) (schedule : List ℕ) → NoneTwice s → Stands classes s (world_after classes s schedule)
world_stands classes s schedule twice = after-stands classes s schedule (first_world s) twice (first-stands classes s)
