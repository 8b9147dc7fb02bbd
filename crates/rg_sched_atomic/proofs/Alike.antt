-- Two schedules behind which each behaviour has ended tell the same.
use Rattle.std.proofs.Common.{◌≡◌, ℕ, zero, suc, ◌+◌, ◌-◌, ◌<◌, ◌⊎◌, inl, inr, true, false, List, [], ◌∷◌, ◌++◌, length, get_or, Option, Some, None}
use Rattle.std.proofs.Common.{slice_get, refl, sym, ap, ◌∙◌, subst, arith}
use Rattle.std.specs.Prelude.{slice_index}
use Rattle.std.proofs.lemmas.List.{length-replicate}
use Rattle.std.proofs.lemmas.Option.{slice_get_within}
use Rattle.rg_tree.specs.Tree.{Class}
use Rattle.rg_rules.specs.Items.{Item}
use Rattle.rg_rules.specs.State.{State}
use Rattle.rg_rules.specs.Steps.{Stepped, Went, Trapped, step_item, step_first, next}
use Rattle.rg_rules.specs.Runs.{Ran, ending_of, after_step, run_on, plain_from}
use Rattle.rg_rules.proofs.Run.{one_more, one_more-done, one_more-trapped, plain_from-stays}
use Rattle.rg_plan.specs.Plans.{Turn as Behaviour}
use Rattle.rg_sched_atomic.specs.Numbers.{In, Distinct}
use Rattle.rg_sched_atomic.specs.Contents.{Content, contents_at}
use Rattle.rg_sched_atomic.specs.Behaviours.{run_of, is_over, has_ended}
use Rattle.rg_sched_atomic.specs.Settings.{Setting}
use Rattle.rg_sched_atomic.specs.Atomic.{Told, at_first, tell, do_one, do_all, World}
use Rattle.rg_sched_atomic.specs.Laws.{AllEnded, numbers_below}
use Rattle.rg_sched_atomic.proofs.Lists.{in_either, distinct_push, not_in_back}
use Rattle.rg_sched_atomic.proofs.Commutes.{run_at, do_append, run_told}
use Rattle.rg_sched_atomic.proofs.Worlds.{Earlier, Stands}
use Rattle.rg_sched_atomic.proofs.Order.{in_plan_order}

-- A run that has ended stays as it is

over-first : (classes : List Class) (made : ℕ) (s : State) (its : List Item) → s.items ≡ its → is_over (ending_of its) ≡ true
    → plain_from classes 1 made s ≡ record { state = s; steps = made; ending = ending_of its }
over-first classes made s [] e over = one_more-done classes made s e
over-first classes made s (i ∷ rest) e over = absurd (no_way over)
  where
    no_way : false ≡ true → ⊥
    no_way h = cc

over-after : (classes : List Class) (n made : ℕ) (s : State) (d : Stepped) → next classes s ≡ d
    → ((t : State) → is_over (plain_from classes n (made + 1) t).ending ≡ true
    → one_more classes (plain_from classes n (made + 1) t) ≡ plain_from classes n (made + 1) t)
    → is_over (after_step made s d (plain_from classes n (made + 1))).ending ≡ true
    → one_more classes (after_step made s d (plain_from classes n (made + 1))) ≡ after_step made s d (plain_from classes n (made + 1))
over-after classes n made s (Went t) step behind over = behind t over
over-after classes n made s (Trapped kind line) step behind over = one_more-trapped classes made s kind line step

over-on : (classes : List Class) (n made : ℕ) (s : State) (its : List Item) → s.items ≡ its
    → ((t : State) → is_over (plain_from classes n (made + 1) t).ending ≡ true
    → one_more classes (plain_from classes n (made + 1) t) ≡ plain_from classes n (made + 1) t)
    → is_over (run_on classes made s its (plain_from classes n (made + 1))).ending ≡ true
    → one_more classes (run_on classes made s its (plain_from classes n (made + 1))) ≡ run_on classes made s its (plain_from classes n (made + 1))
over-on classes n made s [] e behind over = one_more-done classes made s e
over-on classes n made s (i ∷ rest) e behind over =
    over-after classes n made s (step_item classes (record s { items = rest }) i) (ap (step_first classes s) e) behind over

over-stays : (classes : List Class) (n made : ℕ) (s : State) → is_over (plain_from classes n made s).ending ≡ true
    → one_more classes (plain_from classes n made s) ≡ plain_from classes n made s
unfolding plain_from
over-stays classes zero made s over = over-first classes made s s.items refl over
over-stays classes (suc n) made s over = over-on classes n made s s.items refl (λ t. over-stays classes n (made + 1) t) over

longer : (classes : List Class) (s : State) (m n : ℕ) → m < n → is_over (plain_from classes m 0 s).ending ≡ true
    → plain_from classes n 0 s ≡ plain_from classes m 0 s
longer classes s m n l over =
    let e : (n - m) + m ≡ n = omega (arith, l) in
    subst (λ k. plain_from classes k 0 s ≡ plain_from classes m 0 s) e
    (plain_from-stays classes (n - m) m 0 s (plain_from classes m 0 s) refl (over-stays classes m 0 s over))

-- two runs from one state that have both ended are one
pub both_over : (classes : List Class) (s : State) (m n : ℕ) → is_over (plain_from classes m 0 s).ending ≡ true
    → is_over (plain_from classes n 0 s).ending ≡ true → plain_from classes m 0 s ≡ plain_from classes n 0 s
both_over classes s m n p q = by (same_or_not m n)
  where
    same_or_not : (a b : ℕ) → (a ≡ b) ⊎ ((a < b) ⊎ (b < a))
    same_or_not zero zero = inl refl
    same_or_not zero (suc b) = inr (inl (omega arith))
    same_or_not (suc a) zero = inr (inr (omega arith))
    same_or_not (suc a) (suc b) = up (same_or_not a b)
      where
        up : (a ≡ b) ⊎ ((a < b) ⊎ (b < a)) → (suc a ≡ suc b) ⊎ ((suc a < suc b) ⊎ (suc b < suc a))
        up (inl e) = inl (ap suc e)
        up (inr (inl l)) = inr (inl (omega (arith, l)))
        up (inr (inr l)) = inr (inr (omega (arith, l)))

    by : (m ≡ n) ⊎ ((m < n) ⊎ (n < m)) → plain_from classes m 0 s ≡ plain_from classes n 0 s
    by (inl e) = ap (λ k. plain_from classes k 0 s) e
    by (inr (inl l)) = sym (longer classes s m n l p)
    by (inr (inr l)) = longer classes s n m l q

runs_over : (classes : List Class) (b : Behaviour) (cs : List Content) (m n : ℕ) → is_over (run_of classes b cs m).ending ≡ true
    → is_over (run_of classes b cs n).ending ≡ true → run_of classes b cs m ≡ run_of classes b cs n
runs_over classes b cs m n p q = both_over classes _ m n p q

-- The numbers below one

below_in : (n i : ℕ) → In (numbers_below n) i → i < n
below_in zero i h = absurd h
below_in (suc n) i h = by (in_either (numbers_below n) (n ∷ []) i h) (below_in n i)
  where
    by : In (numbers_below n) i ⊎ In (n ∷ []) i → (In (numbers_below n) i → i < n) → i < suc n
    by (inl a) rest = let l = rest a in omega (arith, l)
    by (inr (inl e)) rest = omega (arith, e)
    by (inr (inr a)) rest = absurd a

below_distinct : (n : ℕ) → Distinct (numbers_below n)
below_distinct zero = tt
below_distinct (suc n) = distinct_push (numbers_below n) n (below_distinct n) (λ a. omega (arith, below_in n n a))

append_assoc : (xs ys zs : List ℕ) → (xs ++ ys) ++ zs ≡ xs ++ (ys ++ zs)
append_assoc [] ys zs = refl
append_assoc (x ∷ xs) ys zs = ap (λ r. x ∷ r) (append_assoc xs ys zs)

-- a number stands in its place among them
below_split : (n k : ℕ) → k < n → Earlier (numbers_below n) (numbers_below k) k
below_split zero k l = absurd (omega (arith, l))
below_split (suc n) k l = by (last_or_less k n l) (below_split n k)
  where
    last_or_less : (a b : ℕ) → a < suc b → (a ≡ b) ⊎ (a < b)
    last_or_less zero zero l = inl refl
    last_or_less zero (suc b) l = inr (omega arith)
    last_or_less (suc a) zero l = absurd (omega (arith, l))
    last_or_less (suc a) (suc b) l = up (last_or_less a b (omega (arith, l)))
      where
        up : (a ≡ b) ⊎ (a < b) → (suc a ≡ suc b) ⊎ (suc a < suc b)
        up (inl e) = inl (ap suc e)
        up (inr h) = inr (omega (arith, h))

    by : (k ≡ n) ⊎ (k < n) → (k < n → Earlier (numbers_below n) (numbers_below k) k) → Earlier (numbers_below n ++ n ∷ []) (numbers_below k) k
    by (inl e) rest = record { back = []; is = ap (λ m. numbers_below m ++ m ∷ []) (sym e) }
    by (inr h) rest =
        let p = rest h in
        record { back = p.back ++ n ∷ []; is = ap (λ ys. ys ++ n ∷ []) p.is ∙ append_assoc (numbers_below k) (k ∷ p.back) (n ∷ []) }

-- Two worlds

-- the run of each behaviour in the order of the plan has ended
abbrev OverInOrder : List Class → Setting → (steps : List ℕ) → Type 0
OverInOrder classes s steps = (k : ℕ) (b : Behaviour) → slice_get s.behaviours k ≡ Some b
    → is_over (run_at classes s.behaviours (numbers_below k) steps b (slice_index steps k) (at_first s)).ending ≡ true

over_in_order : (classes : List Class) (s : Setting) (w : World) → Stands classes s w → AllEnded s w → OverInOrder classes s w.turns
over_in_order classes s w h ended k b there =
    let l = slice_get_within s.behaviours k b there in
    let p = below_split (length s.behaviours) k l in
    let none : Option Ran = None in
    let past = not_in_back (numbers_below k) p.back k (subst Distinct p.is (below_distinct (length s.behaviours))) in
    let told : get_or w.told.runs k None ≡ Some (run_at classes s.behaviours (numbers_below k) w.turns b (slice_index w.turns k) (at_first s)) =
    ap (λ (t : Told). get_or t.runs k None) (in_plan_order classes s w h ended)
    ∙ ap (λ order. get_or (do_all classes s.behaviours order w.turns (at_first s)).runs k None) p.is
    ∙ run_told classes s.behaviours (numbers_below k) p.back w.turns k b (at_first s) there
    (subst (λ n. k < n) (sym (length-replicate (length s.behaviours) none)) l) past in
    sym (ap has_ended told) ∙ ended k l

alike_to : (classes : List Class) (s : Setting) (one other : List ℕ) → OverInOrder classes s one → OverInOrder classes s other → (k : ℕ)
    → do_all classes s.behaviours (numbers_below k) one (at_first s) ≡ do_all classes s.behaviours (numbers_below k) other (at_first s)
alike_to classes s one other p q zero = refl
alike_to classes s one other p q (suc k) =
    do_append classes s.behaviours (numbers_below k) (k ∷ []) one (at_first s)
    ∙ last (alike_to classes s one other p q k)
    ∙ sym (do_append classes s.behaviours (numbers_below k) (k ∷ []) other (at_first s))
  where
    first : Told
    first = do_all classes s.behaviours (numbers_below k) one (at_first s)

    second : Told
    second = do_all classes s.behaviours (numbers_below k) other (at_first s)

    by : (o : Option Behaviour) → slice_get s.behaviours k ≡ o → first ≡ second
        → do_one classes k (slice_index one k) o first ≡ do_one classes k (slice_index other k) o second
    by None there same = same
    by (Some b) there same =
        let over : is_over (run_of classes b (contents_at first.contents b.cowns) (slice_index other k)).ending ≡ true =
        subst (λ (t : Told). is_over (run_of classes b (contents_at t.contents b.cowns) (slice_index other k)).ending ≡ true) (sym same)
        (q k b there) in
        ap (λ r. tell classes k b r first)
        (runs_over classes b (contents_at first.contents b.cowns) (slice_index one k) (slice_index other k) (p k b there) over)
        ∙ ap (do_one classes k (slice_index other k) (Some b)) same

    last : first ≡ second → do_all classes s.behaviours (k ∷ []) one first ≡ do_all classes s.behaviours (k ∷ []) other second
    last same = by (slice_get s.behaviours k) refl same

pub all_alike : (classes : List Class) (s : Setting) (w u : World) → Stands classes s w → Stands classes s u → AllEnded s w → AllEnded s u →
    w.told ≡ u.told
all_alike classes s w u h g p q =
    in_plan_order classes s w h p
    ∙ alike_to classes s w.turns u.turns (over_in_order classes s w h p) (over_in_order classes s u g q) (length s.behaviours)
    ∙ sym (in_plan_order classes s u g q)
