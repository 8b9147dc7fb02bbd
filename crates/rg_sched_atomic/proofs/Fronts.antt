-- Those that stand right in front of a behaviour in the queues of its cowns are enough to look at.
use Rattle.std.proofs.Common.{◌≡◌, ◌≢◌, ℕ, zero, suc, ◌+◌, ◌<◌, ◌≤◌, ◌⊎◌, inl, inr, Bool, true, false, ◌||◌, ◌&&◌, ◌==◌}
use Rattle.std.proofs.Common.{List, [], ◌∷◌, length, take, map, filter_map, get_or, Option, Some, None, unwrap_or, slice_get, refl, sym, ap, ◌∙◌}
use Rattle.std.proofs.Common.{subst, arith}
use Rattle.std.specs.Prelude.{not}
use Rattle.std.specs.List.{list_all, list_any, cons_option, range_with_len}
use Rattle.std.proofs.lemmas.Bool.Decides.{nat_tests}
use Rattle.std.proofs.lemmas.List.FromFn.{length-range_with_len, get_or-range_with_len}
use Rattle.std.proofs.lemmas.List.Sums.{list_all-from_AllPass}
use Rattle.rg_queues.specs.Queues.{last_over}
use Rattle.rg_queues.proofs.LastOnes.{IsLastFrom, last-is}
use Rattle.rg_tree.specs.Tree.{Class}
use Rattle.rg_plan.specs.Plans.{Turn as Behaviour, among, all_cowns, in_front_of}
use Rattle.rg_sched_atomic.specs.Behaviours.{cowns_in, cowns_of, share, has_ended}
use Rattle.rg_sched_atomic.specs.Settings.{Setting}
use Rattle.rg_sched_atomic.specs.Atomic.{World}
use Rattle.rg_sched_atomic.specs.Events.{may_begin}
use Rattle.rg_sched_atomic.specs.Laws.{all_ended}
use Rattle.rg_sched_atomic.proofs.Worlds.{Stands, lower_ended, ended-begun, not_two, some_is, zero-add, either_less}

-- Truth values

both-ways : (a b : Bool) → (a ≡ true → b ≡ true) → (b ≡ true → a ≡ true) → a ≡ b
both-ways true b f g = sym (f refl)
both-ways false true f g = g refl
both-ways false false f g = refl

and-true : (a b : Bool) → (a && b) ≡ true → (a ≡ true) × (b ≡ true)
and-true true b e = (refl, e)
and-true false b e = absurd (cc)

or-right : (a b : Bool) → b ≡ true → (a || b) ≡ true
or-right true b e = refl
or-right false b e = e

true-or-false : (b : Bool) → (b ≡ true) ⊎ (b ≡ false)
true-or-false true = inl refl
true-or-false false = inr refl

-- What is found at cowns, where all of it passes a test

all-found : (f : ℕ → Option ℕ) (test : ℕ → Bool) (ns : List ℕ) → ((n k : ℕ) → among ns n ≡ true → f n ≡ Some k → test k ≡ true)
    → list_all test (filter_map f ns) ≡ true
all-found f test [] h = refl
all-found f test (m ∷ ns) h = by (f m) refl (all-found f test ns (λ n k e at. h n k (or-right (m == n) (among ns n) e) at))
  where
    same : (m == m) ≡ true
    same = grind (arith, nat_tests)

    by : (o : Option ℕ) → f m ≡ o → list_all test (filter_map f ns) ≡ true → list_all test (cons_option o (filter_map f ns)) ≡ true
    by None e rest = rest
    by (Some k) e rest =
        let here : among (m ∷ ns) m ≡ true = ap (λ z. z || among ns m) same in
        ap (λ z. z && list_all test (filter_map f ns)) (h m k here e) ∙ rest

found-all : (f : ℕ → Option ℕ) (test : ℕ → Bool) (ns : List ℕ) → list_all test (filter_map f ns) ≡ true → (n k : ℕ) → among ns n ≡ true
    → f n ≡ Some k → test k ≡ true
found-all f test [] h n k e at = absurd (cc)
found-all f test (m ∷ ns) h n k e at = by (f m) refl h (λ all q. found-all f test ns all n k q at)
  where
    here : (m == n) ≡ true → m ≡ n
    here q = grind (arith, nat_tests)

    split : (a b : Bool) → (a || b) ≡ true → (a ≡ true) ⊎ (b ≡ true)
    split true b q = inl refl
    split false b q = inr q

    by : (o : Option ℕ) → f m ≡ o → list_all test (cons_option o (filter_map f ns)) ≡ true
        → (list_all test (filter_map f ns) ≡ true → among ns n ≡ true → test k ≡ true) → test k ≡ true
    by None is all later = or (split (m == n) (among ns n) e)
      where
        or : ((m == n) ≡ true) ⊎ (among ns n ≡ true) → test k ≡ true
        or (inl q) = absurd (let p : None ≡ Some k = sym is ∙ ap f (here q) ∙ at in cc)
        or (inr q) = later all q
    by (Some j) is all later = or (split (m == n) (among ns n) e)
      where
        both : (test j ≡ true) × (list_all test (filter_map f ns) ≡ true)
        both = and-true (test j) (list_all test (filter_map f ns)) all

        or : ((m == n) ≡ true) ⊎ (among ns n ≡ true) → test k ≡ true
        or (inl q) = subst (λ z. test z ≡ true) (some_is j k (sym is ∙ ap f (here q) ∙ at)) both.0
        or (inr q) = later both.1 q

-- Behaviours that share a cown

any-shared : (ms ns : List ℕ) → list_any (among ms) ns ≡ true → (n : ℕ) × (among ns n ≡ true) × (among ms n ≡ true)
any-shared ms [] e = absurd (cc)
any-shared ms (m ∷ ns) e = by (true-or-false (among ms m)) (λ f. any-shared ms ns f)
  where
    same : (m == m) ≡ true
    same = grind (arith, nat_tests)

    by : (among ms m ≡ true) ⊎ (among ms m ≡ false) → (list_any (among ms) ns ≡ true → (n : ℕ) × (among ns n ≡ true) × (among ms n ≡ true))
        → (n : ℕ) × (among (m ∷ ns) n ≡ true) × (among ms n ≡ true)
    by (inl q) later = (m, ap (λ z. z || among ns m) same, q)
    by (inr q) later =
        let r = later (ap (λ z. z || list_any (among ms) ns) (sym q) ∙ e) in
        (r.0, or-right (m == r.0) (among ns r.0) r.1, r.2)

shared-any : (ms ns : List ℕ) (n : ℕ) → among ns n ≡ true → among ms n ≡ true → list_any (among ms) ns ≡ true
shared-any ms [] n e q = absurd (cc)
shared-any ms (m ∷ ns) n e q = by (m == n) refl e (λ a. shared-any ms ns n a q)
  where
    here : (m == n) ≡ true → m ≡ n
    here p = grind (arith, nat_tests)

    by : (b : Bool) → (m == n) ≡ b → (b || among ns n) ≡ true → (among ns n ≡ true → list_any (among ms) ns ≡ true)
        → (among ms m || list_any (among ms) ns) ≡ true
    by true p a later = ap (λ z. z || list_any (among ms) ns) (ap (among ms) (here p) ∙ q)
    by false p a later = or-right (among ms m) (list_any (among ms) ns) (later a)

-- two that are there share each cown that both name
share-both : (bs : List Behaviour) (i k n : ℕ) (b d : Behaviour) → slice_get bs i ≡ Some b → slice_get bs k ≡ Some d
    → among b.cowns n ≡ true → among d.cowns n ≡ true → share bs i k ≡ true
share-both bs i k n b d p q e f =
    ap (λ o. list_any (among (cowns_of bs k)) (cowns_in o)) p ∙ ap (λ o. list_any (among (cowns_in o)) b.cowns) q
    ∙ shared-any d.cowns b.cowns n e f

record Shared (bs : List Behaviour) (b : Behaviour) (k : ℕ) : Type 0 where
  other : Behaviour
  there : slice_get bs k ≡ Some other
  cown : ℕ
  mine : among b.cowns cown ≡ true
  theirs : among other.cowns cown ≡ true

shared-of : (bs : List Behaviour) (i k : ℕ) (b : Behaviour) → slice_get bs i ≡ Some b → share bs i k ≡ true → Shared bs b k
shared-of bs i k b p e = by (slice_get bs k) refl
  where
    by : (o : Option Behaviour) → slice_get bs k ≡ o → Shared bs b k
    by None q =
        let n = any-shared [] b.cowns (sym (ap (λ o. list_any (among (cowns_of bs k)) (cowns_in o)) p
        ∙ ap (λ o. list_any (among (cowns_in o)) b.cowns) q) ∙ e) in absurd (let f : false ≡ true = n.2 in cc)
    by (Some d) q =
        let n = any-shared d.cowns b.cowns (sym (ap (λ o. list_any (among (cowns_of bs k)) (cowns_in o)) p
        ∙ ap (λ o. list_any (among (cowns_in o)) b.cowns) q) ∙ e) in
        record { other = d; there = q; cown = n.0; mine = n.1; theirs = n.2 }

-- The cowns of those in front

before-at : (bs : List Behaviour) (i k : ℕ) (ns : List ℕ) → slice_get (take i (all_cowns bs)) k ≡ Some ns
    → (k < i) × ((d : Behaviour) × (slice_get bs k ≡ Some d) × (d.cowns ≡ ns))
before-at [] zero k ns e = absurd (cc)
before-at [] (suc i) k ns e = absurd (cc)
before-at (b ∷ bs) zero k ns e = absurd (cc)
before-at (b ∷ bs) (suc i) zero ns e = (omega arith, (b, refl, some_is b.cowns ns e))
before-at (b ∷ bs) (suc i) (suc k) ns e = let r = before-at bs i k ns e in (omega (arith, r.0), r.1)

at-before : (bs : List Behaviour) (i k : ℕ) (d : Behaviour) → k < i → slice_get bs k ≡ Some d → slice_get (take i (all_cowns bs)) k ≡ Some d.cowns
at-before [] zero k d l e = absurd (cc)
at-before [] (suc i) k d l e = absurd (cc)
at-before (b ∷ bs) zero k d l e = absurd (omega (arith, l))
at-before (b ∷ bs) (suc i) zero d l e = ap (λ (o : Option Behaviour). elim o [ None ↦ Some b.cowns | Some x ↦ Some x.cowns ]) e
at-before (b ∷ bs) (suc i) (suc k) d l e = at-before bs i k d (omega (arith, l)) e

-- The law

all-below : (test : ℕ → Bool) (n : ℕ) → ((j : ℕ) → j < n → test j ≡ true) → list_all test (range_with_len 0 n) ≡ true
all-below test n h = list_all-from_AllPass test (range_with_len 0 n)
    (λ k d l. let below : k < n = omega (arith, l, length-range_with_len 0 n) in
    subst (λ j. test j ≡ true) (sym (get_or-range_with_len 0 n k d below ∙ zero-add k)) (h k below))

same-or-not : (a b : ℕ) → (a ≡ b) ⊎ (a ≢ b)
same-or-not zero zero = inl refl
same-or-not zero (suc b) = inr (λ e. absurd (omega (arith, e)))
same-or-not (suc a) zero = inr (λ e. absurd (omega (arith, e)))
same-or-not (suc a) (suc b) = up (same-or-not a b)
  where
    up : (a ≡ b) ⊎ (a ≢ b) → (suc a ≡ suc b) ⊎ (suc a ≢ suc b)
    up (inl e) = inl (ap suc e)
    up (inr d) = inr (λ e. d (omega (arith, e)))

module _ (classes : List Class) (s : Setting) (w : World) (i : ℕ) (b : Behaviour) (h : Stands classes s w)
    (there : slice_get s.behaviours i ≡ Some b) where
  abbrev bs : List Behaviour
  bs = s.behaviours

  abbrev over : ℕ → Bool
  over k = has_ended (get_or w.told.runs k None)

  abbrev before : List (List ℕ)
  before = take i (all_cowns bs)

  -- one that stands right in front
  record InFront (n k : ℕ) : Type 0 where
    below : k < i
    other : Behaviour
    at : slice_get bs k ≡ Some other
    names : among other.cowns n ≡ true
    none : (q : ℕ) (ms : List ℕ) → k < q → slice_get before q ≡ Some ms → among ms n ≡ false

  in-front : (n k : ℕ) → last_over before n ≡ Some k → InFront n k
  in-front n k e =
      let last = subst (λ o. IsLastFrom 0 before n o) e (last-is before n) in
      let same : last.0 ≡ k = omega (arith, last.1) in
      let at = before-at bs i last.0 last.2.0 last.2.1 in
      subst (λ z. InFront n z) same (record {
        below = at.0;
        other = at.1.0;
        at = at.1.1;
        names = subst (λ z. among z n ≡ true) (sym at.1.2) last.2.2;
        none = last.3;
      })

  fronts-ended : may_begin bs w.told.runs i ≡ true → all_ended w.told.runs (in_front_of bs i b) ≡ true
  fronts-ended may = all-found (last_over before) over b.cowns (λ n k e at.
      let f = in-front n k at in
      lower_ended bs w.told.runs i k may f.below (share-both bs i k n b f.other there f.at e f.names))

  -- a lower-numbered one that shares a cown with it has ended, where those right in front of it have
  lower-ends : all_ended w.told.runs (in_front_of bs i b) ≡ true → (k : ℕ) → k < i → Shared bs b k → over k ≡ true
  lower-ends all k l c = by (last_over before c.cown) refl (last-is before c.cown)
    where
      here : slice_get before k ≡ Some c.other.cowns
      here = at-before bs i k c.other l c.there

      by : (o : Option ℕ) → last_over before c.cown ≡ o → IsLastFrom 0 before c.cown o → over k ≡ true
      by None e last = absurd (not_two (among c.other.cowns c.cown) c.theirs (last k c.other.cowns here))
      by (Some j) e last = or (same-or-not k j)
        where
          f : InFront c.cown j
          f = in-front c.cown j e

          ended : over j ≡ true
          ended = found-all (last_over before) over b.cowns all c.cown j c.mine e

          less : (k < j) ⊎ (j < k) → over k ≡ true
          less (inl m) =
              h.world.ended j k (ended-begun classes s w j h ended) m (share-both bs j k c.cown f.other c.other f.at c.there f.names c.theirs)
          less (inr m) = absurd (not_two (among c.other.cowns c.cown) c.theirs (f.none k c.other.cowns m here))

          or : (k ≡ j) ⊎ (k ≢ j) → over k ≡ true
          or (inl q) = subst (λ z. over z ≡ true) (sym q) ended
          or (inr d) = less (either_less k j d)

  ended-begins : all_ended w.told.runs (in_front_of bs i b) ≡ true → may_begin bs w.told.runs i ≡ true
  ended-begins all = all-below (λ k. not (share bs i k) || over k) i (λ k l. by k l (true-or-false (share bs i k)))
    where
      by : (k : ℕ) → k < i → (share bs i k ≡ true) ⊎ (share bs i k ≡ false) → (not (share bs i k) || over k) ≡ true
      by k l (inl e) = or-right (not (share bs i k)) (over k) (lower-ends all k l (shared-of bs i k b there e))
      by k l (inr e) = ap (λ z. not z || over k) e

  pub fronts_are_enough : all_ended w.told.runs (in_front_of s.behaviours i b) ≡ may_begin s.behaviours w.told.runs i
  fronts_are_enough = both-ways (all_ended w.told.runs (in_front_of bs i b)) (may_begin bs w.told.runs i) ended-begins fronts-ended
