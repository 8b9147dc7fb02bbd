-- How often the events of a schedule ask the pacers, number by number.
use Rattle.std.proofs.Common.{◌≡◌, ℕ, zero, suc, ◌+◌, Bool, true, false, List, [], ◌∷◌, ◌++◌, Option, Some, None, if◌then◌else◌}
use Rattle.std.proofs.Common.{append-nil, append_assoc, sym, ap, ◌∙◌, subst, arith}
use Rattle.std.specs.Prelude.{slice_index_or}
use Rattle.rg_base.specs.Input.{NextNumber, found, malformed, at_end, next_number}
use Rattle.rg_base.specs.declared.words.Manager.{Manager}
use Rattle.rg_base.specs.declared.words.Manager.TheVariants.{Count, Trace}
use Rattle.rg_input.specs.Numbers.{is_more}
use Rattle.rg_tree.specs.Tree.{Class, Tree}
use Rattle.rg_cown.specs.Cargo.{CargoList}
use Rattle.rg_pace.specs.Asked.{Asked, one_more}
use Rattle.rg_plan.specs.Plans.{Turn as Behaviour, PlanOf}
use Rattle.rg_sched_atomic.specs.Settings.{setting_of}
use Rattle.rg_sched_atomic.specs.Atomic.{World}
use Rattle.rg_sched_atomic.specs.Events.{event, after, first_world}
use Rattle.rg_world.specs.Asking.{Asks, AskedTimes, WasAsked, EventAsks, event_asks, raised}
use Rattle.rg_sched.specs.Schedules.{Schedule, Whole, TooLong, taken_of, behaviour_of, behind_number, behind_next, schedule_from}
use Rattle.rg_sched.specs.Asking.{AskedBy, asks_behind}

-- So often, and then so often more

raised-more : (j k n : ℕ) → raised j (raised k n) ≡ raised (k + j) n
raised-more zero k n = let same : k ≡ k + 0 = omega arith in ap (λ q. raised q n) same
raised-more (suc j) k n =
    let same : suc (k + j) ≡ k + suc j = omega arith in ap one_more (raised-more j k n) ∙ ap (λ q. raised q n) same

none-before : (n : ℕ) → n + 0 ≡ 0 + n
none-before n = omega arith

add-assoc : (j k n : ℕ) → j + (k + n) ≡ j + k + n
add-assoc j k n = omega arith

then-asked : (j : ℕ) (first now next : Asked) → WasAsked first now → AskedTimes j now next → WasAsked first next
then-asked zero first now next so_far more = let P : Asked → Type 0 = λ a. WasAsked first a in subst P (sym more) so_far
then-asked (suc j) first now next so_far more =
    let rest = then-asked j first now more.0 so_far more.3 in (suc rest.0, (more.0, more.1, more.2, rest.1, more.4))

-- the event of one number more
asks-push : (classes : List Class) (bs : List Behaviour) (numbers : List ℕ) (k : ℕ) (w : World) (m : Manager)
    → asks_behind classes bs (numbers ++ k ∷ []) w m
    ≡ asks_behind classes bs numbers w m + event_asks classes (slice_index_or (after classes bs numbers w).told.runs k None) m
asks-push classes bs [] k w m = none-before (event_asks classes (slice_index_or w.told.runs k None) m)
asks-push classes bs (i ∷ is) k w m =
    let here = event_asks classes (slice_index_or w.told.runs i None) m in
    let next = event classes bs i w in
    ap (λ n. here + n) (asks-push classes bs is k next m)
    ∙ add-assoc here (asks_behind classes bs is next m) (event_asks classes (slice_index_or (after classes bs is next).told.runs k None) m)

pub asked-push : (t : Tree) (p : PlanOf) (images : List CargoList) (numbers : List ℕ) (k : ℕ) (first now next : Asks)
    → AskedBy t p images numbers first now → EventAsks t p images numbers k now next → AskedBy t p images (numbers ++ k ∷ []) first next
asked-push t p images numbers k first now next so_far more = record {
  count = more.count ∙ ap (raised (later Count)) so_far.count ∙ raised-more (later Count) (times Count) first.count.asks
      ∙ ap (λ n. raised n first.count.asks) (sym (asks-push t.classes p.behaviours numbers k w Count));
  trace = more.trace ∙ ap (raised (later Trace)) so_far.trace ∙ raised-more (later Trace) (times Trace) first.trace.asks
      ∙ ap (λ n. raised n first.trace.asks) (sym (asks-push t.classes p.behaviours numbers k w Trace));
  count_alone = then-asked more.count_alone.0 first.count now.count next.count so_far.count_alone more.count_alone.1;
  trace_alone = then-asked more.trace_alone.0 first.trace now.trace next.trace so_far.trace_alone more.trace_alone.1;
}
  where
    w : World
    w = first_world (setting_of t.classes p images)

    times : Manager → ℕ
    times m = asks_behind t.classes p.behaviours numbers w m

    later : Manager → ℕ
    later m = event_asks t.classes (slice_index_or (after t.classes p.behaviours numbers w).told.runs k None) m

-- What is taken begins with what was taken so far

number-taken : (so_far : List ℕ) (o : Option ℕ) (go : ℕ → Schedule) → ((k : ℕ) → (later : List ℕ) × (taken_of (go k) ≡ (so_far ++ k ∷ []) ++ later))
    → (later : List ℕ) × (taken_of (behind_number so_far o go) ≡ so_far ++ later)
number-taken so_far None go goes = ([], sym (append-nil so_far))
number-taken so_far (Some k) go goes = let h = goes k in (k ∷ h.0, h.1 ∙ append_assoc so_far (k ∷ []) h.0)

next-taken : (n : ℕ) (so_far : List ℕ) (next : NextNumber) (go : ℕ → List ℕ → Schedule)
    → ((k : ℕ) (rest : List ℕ) → (later : List ℕ) × (taken_of (go k rest) ≡ (so_far ++ k ∷ []) ++ later))
    → (later : List ℕ) × (taken_of (behind_next n so_far next go) ≡ so_far ++ later)
next-taken n so_far (found z rest) go goes = number-taken so_far (behaviour_of n z) (λ k. go k rest) (λ k. goes k rest)
next-taken n so_far malformed go goes = ([], sym (append-nil so_far))
next-taken n so_far at_end go goes = ([], sym (append-nil so_far))

last-taken : (so_far : List ℕ) (b : Bool) → (later : List ℕ) × (taken_of (if b then TooLong so_far else Whole so_far) ≡ so_far ++ later)
last-taken so_far true = ([], sym (append-nil so_far))
last-taken so_far false = ([], sym (append-nil so_far))

pub from-taken : (n left : ℕ) (so_far bytes : List ℕ) → (later : List ℕ) × (taken_of (schedule_from n left so_far bytes) ≡ so_far ++ later)
unfolding schedule_from
from-taken n zero so_far bytes = last-taken so_far (is_more (next_number bytes))
from-taken n (suc left) so_far bytes =
    next-taken n so_far (next_number bytes) (λ k. schedule_from n left (so_far ++ k ∷ [])) (λ k rest. from-taken n left (so_far ++ k ∷ []) rest)
