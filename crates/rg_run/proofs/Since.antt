-- How often the steps of a run asked a pacer since its last yes, over plain lists.
use Rattle.std.proofs.Common.{◌≡◌, ◌≤◌, ℕ, suc, ◌+◌, Bool, true, false, true≢false, nat_lt, inl, inr, if◌then◌else◌, cond}
use Rattle.std.proofs.Common.{List, [], ◌∷◌, ◌++◌, refl, sym, ap, subst, ◌∙◌, arith, append-nil}
use Rattle.std.proofs.lemmas.List.{append_cancel_left}
use Rattle.std.proofs.lemmas.List.Sums.{sum_by_push}
use Rattle.std.specs.List.{list_any}
use Rattle.rg_base.specs.declared.event.Event.{Event}
use Rattle.rg_base.specs.declared.words.Manager.{Manager}
use Rattle.rg_base.specs.declared.words.Manager.TheVariants.{Count, Trace}
use Rattle.rg_pace.specs.Asked.{one_more}
use Rattle.rg_rules.specs.Outside.Asks.{asks, asks_then}
use Rattle.rg_tree.specs.Tree.{Tree}
use Rattle.rg_step.specs.Asking.{since_behind}
use Rattle.rg_step.specs.Yeses.{paced_by, raised}
use Rattle.rg_step.specs.Stepping.{Stepping}
use Rattle.rg_run.specs.Asked.{last_behind, last_yes, later_than}
use Rattle.rg_run.specs.Inner.{OneMore}

-- The number of the last yes

pub last-append : (m : Manager) (found : ℕ) (xs ys : List Event) → last_behind m found (xs ++ ys) ≡ last_behind m (last_behind m found xs) ys
last-append m found [] ys = refl
last-append m found (x ∷ xs) ys = last-append m (if paced_by m x then x.step else found) xs ys

last-one : (m : Manager) (found step : ℕ) (e : Event) → e.step ≡ step →
    last_behind m found (e ∷ []) ≡ (if list_any (paced_by m) (e ∷ []) then step else found)
last-one m found step e is = by (paced_by m e) refl
  where
    by : (said : Bool) → paced_by m e ≡ said → last_behind m found (e ∷ []) ≡ (if list_any (paced_by m) (e ∷ []) then step else found)
    by true said = rw said is
    by false said = rw said refl

-- behind the collections of a step
pub last-more : (m : Manager) (found step : ℕ) (old new behind : List Event) → new ≡ old ++ behind → OneMore step old new →
    last_behind m found behind ≡ (if list_any (paced_by m) behind then step else found)
last-more m found step old new behind is (inl same) =
    let P : List Event → Type 0 = λ q. last_behind m found q ≡ (if list_any (paced_by m) q then step else found) in
    let none : behind ≡ [] = append_cancel_left old behind [] (sym is ∙ same ∙ sym (append-nil old)) in
    subst P (sym none) refl
last-more m found step old new behind is (inr more) =
    let P : List Event → Type 0 = λ q. last_behind m found q ≡ (if list_any (paced_by m) q then step else found) in
    let one : behind ≡ more.0 ∷ [] = append_cancel_left old behind (more.0 ∷ []) (sym is ∙ more.1) in
    subst P (sym one) (last-one m found step more.0 more.2)

-- The asks behind it

later-more : (step number : ℕ) (asked : List ℕ) → later_than step (asked ++ number ∷ []) ≡ later_than step asked + cond (nat_lt step number) 1 0
later-more step number asked = sum_by_push (λ n. cond (nat_lt step n) 1 0) asked number

-- Of k steps these asked: so many were counted since the step of that number, which is one of them, or none; and none is later than the last one.
pub record CountsSince (k since found : ℕ) (asked : List ℕ) : Type 0 where
  pub counts : since ≡ raised (later_than found asked) 0
  pub sooner : found ≤ k
  pub last : (step : ℕ) → k ≤ step → later_than step asked ≡ 0

none-later : (k : ℕ) (asked : List ℕ) (asking : Bool) → ((step : ℕ) → k ≤ step → later_than step asked ≡ 0) → (step : ℕ) → k + 1 ≤ step →
    later_than step (asked ++ asks_then asking (k + 1) []) ≡ 0
none-later k asked true none step past =
    let before : nat_lt step (k + 1) ≡ false = grind (arith, past) in
    let so_far : later_than step asked ≡ 0 = none step (omega (arith, past)) in
    later-more step (k + 1) asked ∙ rw (so_far, before) refl
none-later k asked false none step past = ap (later_than step) (append-nil asked) ∙ none step (omega (arith, past))

-- one step more
pub since-next : (k since found : ℕ) (asked : List ℕ) (asking said : Bool) (new now : ℕ) → CountsSince k since found asked →
    (said ≡ true → asking ≡ true) → new ≡ since_behind asking said since → now ≡ (if said then k + 1 else found) →
    CountsSince (k + 1) new now (asked ++ asks_then asking (k + 1) [])
since-next k since found asked true true new now s only is now_is =
    let none = none-later k asked true s.last in
    let past : k + 1 ≤ now = omega (arith, now_is) in
    record { counts = is ∙ sym (ap (λ n. raised n 0) (none now past)); sooner = omega (arith, now_is); last = none }
since-next k since found asked true false new now s only is now_is =
    let later : nat_lt found (k + 1) ≡ true = grind (arith, s.sooner) in
    let more : later_than found (asked ++ (k + 1) ∷ []) ≡ suc (later_than found asked) =
    later-more found (k + 1) asked ∙ rw later (omega arith) in
    record {
      counts = is ∙ ap one_more s.counts ∙ sym (ap (λ n. raised n 0) (ap (λ q. later_than q (asked ++ (k + 1) ∷ [])) now_is ∙ more));
      sooner = omega (arith, now_is, s.sooner);
      last = none-later k asked true s.last;
    }
since-next k since found asked false true new now s only is now_is = absurd (true≢false (sym (only refl)))
since-next k since found asked false false new now s only is now_is = record {
  counts = is ∙ s.counts ∙ sym (ap (λ n. raised n 0) (ap (λ q. later_than q (asked ++ [])) now_is ∙ ap (later_than found) (append-nil asked)));
  sooner = omega (arith, now_is, s.sooner);
  last = none-later k asked false s.last;
}

-- more steps, none of which asks
pub since-still : (k j since found : ℕ) (asked : List ℕ) → CountsSince k since found asked → CountsSince (k + j) since found asked
since-still k j since found asked s = record {
  counts = s.counts;
  sooner = omega (arith, s.sooner);
  last = λ step past. s.last step (omega (arith, past));
}

-- Behind k steps of a program on an input: a stepper has counted them, and for each pacer the asks since its last yes.
pub record SinceOver (t : Tree) (input : List ℕ) (k : ℕ) (st : Stepping) : Type 0 where
  pub steps : st.steps ≡ k
  pub count : CountsSince k st.since.count (last_yes Count st.events) (asks t input k Count)
  pub trace : CountsSince k st.since.trace (last_yes Trace st.events) (asks t input k Trace)
