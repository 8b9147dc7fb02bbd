-- Behaviours that share a cown keep their order; the others may be done in the order of their numbers.
use Rattle.std.proofs.Common.{◌≡◌, ◌≢◌, ℕ, zero, suc, ◌<◌, ◌⊎◌, inl, inr, true, List, [], ◌∷◌, ◌++◌, length, Option, Some, None, slice_get}
use Rattle.std.proofs.Common.{refl, sym, ap, ◌∙◌, subst, arith}
use Rattle.std.specs.Bool.{⊤}
use Rattle.std.specs.Prelude.{slice_index}
use Rattle.std.proofs.lemmas.Option.{slice_get_within}
use Rattle.rg_tree.specs.Tree.{Class}
use Rattle.rg_rules.specs.Types.{fields_of}
use Rattle.rg_plan.specs.Plans.{Turn as Behaviour}
use Rattle.rg_sched_atomic.specs.Numbers.{In, Distinct}
use Rattle.rg_sched_atomic.specs.Contents.{contents_at, left_by}
use Rattle.rg_sched_atomic.specs.Behaviours.{run_of, share}
use Rattle.rg_sched_atomic.specs.Settings.{Setting}
use Rattle.rg_sched_atomic.specs.Atomic.{Told, at_first, tell, do_one, do_all, atomic, World, WorldOf}
use Rattle.rg_sched_atomic.specs.Laws.{AllEnded, numbers_below}
use Rattle.rg_sched_atomic.proofs.Lists.{Apart, in_either, in_back, Around, around, not_in_front, not_in_back, not_both, contents_stay}
use Rattle.rg_sched_atomic.proofs.Commutes.{one_commutes, do_append}
use Rattle.rg_sched_atomic.proofs.Worlds.{shares, Stands, ended-begun}

-- Two behaviours that share no cown are done in either order

do_either : (classes : List Class) (i j m n : ℕ) (b d : Behaviour) (t : Told) → i ≢ j → Apart d.cowns b.cowns
    → do_one classes j n (Some d) (do_one classes i m (Some b) t) ≡ do_one classes i m (Some b) (do_one classes j n (Some d) t)
do_either classes i j m n b d t differ apart =
    let r = run_of classes b (contents_at t.contents b.cowns) m in
    let q = run_of classes d (contents_at t.contents d.cowns) n in
    let same = contents_stay b.cowns d.cowns (left_by (fields_of classes d.class) q.state q.ending d.cowns) t.contents apart in
    one_commutes classes i j n b d r t differ apart
    ∙ ap (λ z. tell classes i b (run_of classes b z m) (do_one classes j n (Some d) t)) (sym same)

-- two behaviours, where both are there, share no cown
abbrev pub ShareNone : List Behaviour → (one other : ℕ) → Type 0
ShareNone bs i j = (b d : Behaviour) → slice_get bs i ≡ Some b → slice_get bs j ≡ Some d → Apart d.cowns b.cowns

pub share_none : (bs : List Behaviour) (i j : ℕ) → (share bs i j ≡ true → ⊥) → ShareNone bs i j
share_none bs i j h b d p q n x y = h (shares bs i j b d p q n y x)

swap : (classes : List Class) (bs : List Behaviour) (i j m n : ℕ) (t : Told) → i ≢ j → ShareNone bs i j
    → do_one classes j n (slice_get bs j) (do_one classes i m (slice_get bs i) t)
    ≡ do_one classes i m (slice_get bs i) (do_one classes j n (slice_get bs j) t)
swap classes bs i j m n t differ none = by (slice_get bs i) (slice_get bs j) none
  where
    by : (o p : Option Behaviour) → ((b d : Behaviour) → o ≡ Some b → p ≡ Some d → Apart d.cowns b.cowns)
        → do_one classes j n p (do_one classes i m o t) ≡ do_one classes i m o (do_one classes j n p t)
    by None p apart = refl
    by (Some b) None apart = refl
    by (Some b) (Some d) apart = do_either classes i j m n b d t differ (apart b d refl refl)

-- a behaviour that shares no cown with those behind it may be done behind them
move_back : (classes : List Class) (bs : List Behaviour) (i : ℕ) (back steps : List ℕ) (t : Told) → ((j : ℕ) → In back j → (i ≢ j) × ShareNone bs i j)
    → do_all classes bs (i ∷ back) steps t ≡ do_all classes bs (back ++ i ∷ []) steps t
move_back classes bs i [] steps t clear = refl
move_back classes bs i (j ∷ js) steps t clear =
    ap (do_all classes bs js steps) (swap classes bs i j (slice_index steps i) (slice_index steps j) t (clear j (inl refl)).0 (clear j (inl refl)).1)
    ∙ move_back classes bs i js steps (do_one classes j (slice_index steps j) (slice_get bs j) t) (λ k a. clear k (inr a))

-- Orders

-- behind no behaviour stands a lower-numbered one that shares a cown with it
abbrev pub InOrder : List Behaviour → List ℕ → Type 0
InOrder bs [] = ⊤
InOrder bs (i ∷ is) = ((k : ℕ) → In is k → k < i → share bs i k ≡ true → ⊥) × InOrder bs is

in_more : (front back : List ℕ) (n k : ℕ) → In (front ++ back) k → In (front ++ n ∷ back) k
in_more [] back n k h = inr h
in_more (x ∷ front) back n k (inl e) = inl e
in_more (x ∷ front) back n k (inr h) = inr (in_more front back n k h)

in_less : (front back : List ℕ) (n k : ℕ) → In (front ++ n ∷ back) k → k ≢ n → In (front ++ back) k
in_less [] back n k (inl e) d = absurd (d e)
in_less [] back n k (inr h) d = h
in_less (x ∷ front) back n k (inl e) d = inl e
in_less (x ∷ front) back n k (inr h) d = inr (in_less front back n k h d)

order_less : (bs : List Behaviour) (front back : List ℕ) (n : ℕ) → InOrder bs (front ++ n ∷ back) → InOrder bs (front ++ back)
order_less bs [] back n h = h.1
order_less bs (x ∷ front) back n h = (λ k a l s. h.0 k (in_more front back n k a) l s, order_less bs front back n h.1)

order_back : (bs : List Behaviour) (front back : List ℕ) (n k : ℕ) → InOrder bs (front ++ n ∷ back) → In back k → k < n → share bs n k ≡ true → ⊥
order_back bs [] back n k h a l s = h.0 k a l s
order_back bs (x ∷ front) back n k h a l s = order_back bs front back n k h.1 a l s

distinct_less : (front back : List ℕ) (n : ℕ) → Distinct (front ++ n ∷ back) → Distinct (front ++ back)
distinct_less [] back n d = d.1
distinct_less (x ∷ front) back n d = (λ a. d.0 (in_more front back n x a), distinct_less front back n d.1)

not_same : (front back : List ℕ) (n k : ℕ) → Distinct (front ++ n ∷ back) → In (front ++ back) k → k ≢ n
not_same front back n k d a e = by (in_either front back k a)
  where
    by : In front k ⊎ In back k → ⊥
    by (inl f) = not_in_front front back n d (subst (In front) e f)
    by (inr b) = not_in_back front back n d (subst (In back) e b)

-- all numbers below one, each once, may be done in rising order where those that share a cown keep theirs
pub sorted : (classes : List Class) (bs : List Behaviour) (steps : List ℕ) (t : Told) (n : ℕ) (xs : List ℕ) → Distinct xs →
    ((i : ℕ) → In xs i → i < n)
    → ((i : ℕ) → i < n → In xs i) → InOrder bs xs → do_all classes bs xs steps t ≡ do_all classes bs (numbers_below n) steps t
sorted classes bs steps t zero [] d below all order = refl
sorted classes bs steps t zero (x ∷ xs) d below all order = absurd (omega (arith, below x (inl refl)))
sorted classes bs steps t (suc n) xs d below all order =
    with_last (around xs n (all n (omega arith))) (λ ys. sorted classes bs steps t n ys)
  where
    smaller : (i : ℕ) → i < suc n → i ≢ n → i < n
    smaller i l differ = omega (arith, l, differ)

    with_last : Around xs n
        → ((ys : List ℕ) → Distinct ys → ((i : ℕ) → In ys i → i < n) → ((i : ℕ) → i < n → In ys i) → InOrder bs ys
        → do_all classes bs ys steps t ≡ do_all classes bs (numbers_below n) steps t)
        → do_all classes bs xs steps t ≡ do_all classes bs (numbers_below n ++ n ∷ []) steps t
    with_last a rest =
        let dist : Distinct (a.front ++ n ∷ a.back) = subst Distinct a.is d in
        let ordered : InOrder bs (a.front ++ n ∷ a.back) = subst (InOrder bs) a.is order in
        let whole : (k : ℕ) → In (a.front ++ a.back) k → In xs k = (λ k h. subst (λ ys. In ys k) (sym a.is) (in_more a.front a.back n k h)) in
        let first = do_all classes bs a.front steps t in
        let clear : (j : ℕ) → In a.back j → (n ≢ j) × ShareNone bs n j =
        (λ j h. let other : j ≢ n = not_same a.front a.back n j dist (in_back a.front a.back j h) in (
          λ e. other (sym e),
          share_none bs n j (λ s. order_back bs a.front a.back n j ordered h
              (smaller j (below j (whole j (in_back a.front a.back j h))) other) s),
        )) in
        ap (λ ys. do_all classes bs ys steps t) a.is
        ∙ do_append classes bs a.front (n ∷ a.back) steps t
        ∙ move_back classes bs n a.back steps first clear
        ∙ do_append classes bs a.back (n ∷ []) steps first
        ∙ ap (do_all classes bs (n ∷ []) steps) (sym (do_append classes bs a.front a.back steps t)
        ∙ rest (a.front ++ a.back) (distinct_less a.front a.back n dist)
        (λ i h. smaller i (below i (whole i h)) (not_same a.front a.back n i dist h))
        (λ i l. in_less a.front a.back n i (subst (λ ys. In ys i) a.is (all i (omega (arith, l)))) (λ e. omega (arith, l, e)))
        (order_less bs a.front a.back n ordered))
        ∙ sym (do_append classes bs (numbers_below n) (n ∷ []) steps t)

-- The order in which behaviours began

push_append : (front : List ℕ) (i : ℕ) (xs : List ℕ) → front ++ i ∷ xs ≡ (front ++ i ∷ []) ++ xs
push_append [] i xs = refl
push_append (x ∷ front) i xs = ap (λ ys. x ∷ ys) (push_append front i xs)

order_of : (classes : List Class) (s : Setting) (w : World) → WorldOf classes s w → (front xs : List ℕ) → w.began ≡ front ++ xs →
    InOrder s.behaviours xs
order_of classes s w h front [] e = tt
order_of classes s w h front (i ∷ xs) e = (
  λ k a l sh. not_both front xs i k (subst Distinct e h.once) (h.behind front xs i k e l sh) a,
  order_of classes s w h (front ++ i ∷ []) xs (e ∙ push_append front i xs),
)

pub in_plan_order : (classes : List Class) (s : Setting) (w : World) → Stands classes s w → AllEnded s w
    → w.told ≡ atomic classes s (numbers_below (length s.behaviours)) w.turns
in_plan_order classes s w h ended =
    h.world.told ∙ sorted classes s.behaviours w.turns (at_first s) (length s.behaviours) w.began h.world.once
    (λ i a. let b = h.there i a in slice_get_within s.behaviours i b.0 b.1)
    (λ i l. ended-begun classes s w i h (ended i l))
    (order_of classes s w h.world [] w.began refl)
