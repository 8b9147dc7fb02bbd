-- A run from its first step to its end, over plain states: whatever machine shows them. For callers.
use Rattle.std.proofs.Common.{◌≡◌, ◌≢◌, ℕ, ◌+◌, ◌-◌, ◌<◌, true, false, List, [], ◌∷◌, ◌++◌, length, drop, Option, refl, sym, ap, ◌∙◌, subst}
use Rattle.std.proofs.Common.{arith, append-nil, append_assoc, add-one}
use Rattle.std.proofs.Math.Seq.{drop-append_seam}
use Rattle.rg_base.specs.declared.value.Val.{Val}
use Rattle.rg_base.specs.declared.outcome.Outcome.TheVariants as outcome
use Rattle.rg_base.specs.declared.outcome.Ended.{Ended}
use Rattle.rg_base.specs.declared.outcome.Ended.TheVariants as ended_as
use Rattle.rg_base.specs.declared.outcome.Trap.{Trap}
use Rattle.rg_base.specs.Text.{line_text, text}
use Rattle.rg_base.proofs.Callers.Texts.{text-append}
use Rattle.rg_io.specs.Content.{Appends, AppendsPart}
use Rattle.rg_io.proofs.Content.{Appends-more}
use Rattle.rg_tree.specs.Rows.Tables.{Tables}
use Rattle.rg_tree.specs.Rows.RowTrees.{classes_of}
use Rattle.rg_rules.specs.Items.{Item}
use Rattle.rg_rules.specs.State.{State}
use Rattle.rg_rules.specs.Steps.{next, Went, Trapped}
use Rattle.rg_rules.specs.Runs.{Ending, Running, Done, Stopped, Ran, ending_of, plain_from}
use Rattle.rg_rules.proofs.Run.{one_more, one_more-went, one_more-trapped, one_more-done, plain_from-suc, plain_from-stays}
use Rattle.rg_rules.specs.Outside.Inputs.{first_asks}
use Rattle.rg_plain.specs.Outcomes.{Settles}
use Rattle.rg_plain.specs.Runs.{answer, StandsAt, CutOff, CutAtInput, Whole, NoneAsks}
use Rattle.rg_rules.specs.Outside.Texts.{ran, output_after, text_of, added}

ending-some : (items : List Item) → items ≢ [] → ending_of items ≡ Running
ending-some [] some = absurd (some refl)
ending-some (i ∷ rest) some = refl

-- a run that stands at a state, after so many steps
abbrev pub at_state : State → ℕ → Ending → Ran
at_state u k e = record { state = u; steps = k; ending = e }

ran-more : (t : Tables) (s : State) (k : ℕ) → ran t s (k + 1) ≡ one_more (classes_of t) (ran t s k)
ran-more t s k = rw add-one (plain_from-suc (classes_of t) k 0 s)

ran-went_by : (t : Tables) (u v : State) (k : ℕ) (items : List Item) → u.items ≡ items → items ≢ [] → next (classes_of t) u ≡ Went v →
    plain_from (classes_of t) 1 k u ≡ at_state v (k + 1) (ending_of v.items)
ran-went_by t u v k [] is some went = absurd (some refl)
ran-went_by t u v k (i ∷ rest) is some went = one_more-went (classes_of t) k u v i rest is went

ran-went : (t : Tables) (s u v : State) (k : ℕ) → ran t s k ≡ at_state u k Running → u.items ≢ [] → next (classes_of t) u ≡ Went v →
    ran t s (k + 1) ≡ at_state v (k + 1) (ending_of v.items)
ran-went t s u v k is some went = ran-more t s k ∙ ap (one_more (classes_of t)) is ∙ ran-went_by t u v k u.items refl some went

ran-stays : (t : Tables) (s : State) (k n : ℕ) (r : Ran) → k < n → ran t s (k + 1) ≡ r → one_more (classes_of t) r ≡ r → ran t s n ≡ r
ran-stays t s k n r within is stays =
    let same : n ≡ (n - (k + 1)) + (k + 1) = omega arith in
    ap (ran t s) same ∙ plain_from-stays (classes_of t) (n - (k + 1)) (k + 1) 0 s r is stays

ran-trapped : (t : Tables) (s u : State) (k n : ℕ) (kind : Trap) (line : ℕ) → k < n → ran t s k ≡ at_state u k Running →
    next (classes_of t) u ≡ Trapped kind line → ran t s n ≡ at_state u k (Stopped kind line)
ran-trapped t s u k n kind line within is trapped =
    let stops = one_more-trapped (classes_of t) k u kind line trapped in
    ran-stays t s k n (at_state u k (Stopped kind line)) within (ran-more t s k ∙ ap (one_more (classes_of t)) is ∙ stops) stops

ran-done : (t : Tables) (s u v : State) (k n : ℕ) → k < n → ran t s k ≡ at_state u k Running → u.items ≢ [] →
    next (classes_of t) u ≡ Went v → v.items ≡ [] → ran t s n ≡ at_state v (k + 1) Done
ran-done t s u v k n within is some went none =
    ran-stays t s k n (at_state v (k + 1) Done) within (ran-went t s u v k is some went ∙ ap (λ items. at_state v (k + 1) (ending_of items)) none)
    (one_more-done (classes_of t) (k + 1) v none)

-- A run so far: the state u where it stands, what was printed before its last step and in it, and that the text was taken.
pub record RanSoFar (t : Tables) (s : State) (k : ℕ) (u : State) (old new : Option (List ℕ)) : Type 0 where
  pub some : u.items ≢ []
  pub ran_is : ran t s k ≡ at_state u k Running
  pub before : List Val
  pub last : List Val
  pub output_before : output_after t s (k - 1) ≡ s.output ++ before
  pub output : u.output ≡ s.output ++ (before ++ last)
  pub took : Appends old new (text (before ++ last))

pub opening : (t : Tables) (s : State) (content : Option (List ℕ)) → s.items ≢ [] → Appends content content [] → RanSoFar t s 0 s content content
unfolding plain_from
opening t s content some nothing = record {
  some = some;
  ran_is = ap (at_state s 0) (ending-some s.items some);
  before = [];
  last = [];
  output_before = sym (append-nil s.output);
  output = sym (append-nil s.output);
  took = nothing;
}

-- a step that went on and printed nothing
pub quiet : (t : Tables) (s : State) (k : ℕ) (u v : State) (old out : Option (List ℕ)) →
    RanSoFar t s k u old out → Settles (next (classes_of t) u) u v outcome.Running → RanSoFar t s (k + 1) v old out
quiet t s k u v old out so_far step =
    let P : List Val → Type 0 = λ vs. Appends old out (text vs) in
    let back : (k + 1) - 1 ≡ k = omega arith in
    let went = ran-went t s u v k so_far.ran_is so_far.some step.0 in
    record {
      some = step.1;
      ran_is = went ∙ ap (at_state v (k + 1)) (ending-some v.items step.1);
      before = so_far.before ++ so_far.last;
      last = [];
      output_before = ap (output_after t s) back ∙ ap (λ q. q.state.output) so_far.ran_is ∙ so_far.output;
      output = step.2 ∙ so_far.output ∙ ap (λ q. s.output ++ q) (sym (append-nil (so_far.before ++ so_far.last)));
      took = subst P (sym (append-nil (so_far.before ++ so_far.last))) so_far.took;
    }

-- a step that printed a value, whose line was then taken
pub printed : (t : Tables) (s : State) (k : ℕ) (u v : State) (value : Val) (old between out : Option (List ℕ)) →
    RanSoFar t s k u old between → Settles (next (classes_of t) u) u v (outcome.Printed value) → Appends between out (line_text value) →
    RanSoFar t s (k + 1) v old out
printed t s k u v value old between out so_far step line =
    let P : List ℕ → Type 0 = λ bytes. Appends old out bytes in
    let back : (k + 1) - 1 ≡ k = omega arith in
    let went = ran-went t s u v k so_far.ran_is so_far.some step.0 in
    let all = so_far.before ++ so_far.last in
    record {
      some = step.1;
      ran_is = went ∙ ap (at_state v (k + 1)) (ending-some v.items step.1);
      before = all;
      last = value ∷ [];
      output_before = ap (output_after t s) back ∙ ap (λ q. q.state.output) so_far.ran_is ∙ so_far.output;
      output = step.2 ∙ ap (λ q. q ++ value ∷ []) so_far.output ∙ append_assoc s.output all (value ∷ []);
      took =
          subst P (sym (text-append all (value ∷ []) ∙ ap (λ q. text all ++ q) (append-nil (line_text value))))
          (Appends-more old between out (text all) (line_text value) so_far.took line);
    }

-- the text up to a step, by the values that were printed
text-is : (t : Tables) (s : State) (k : ℕ) (vs : List Val) → output_after t s k ≡ s.output ++ vs → text_of t s k ≡ text vs
text-is t s k vs is = ap (λ q. text (drop (length s.output) q)) is ∙ ap text (drop-append_seam s.output vs)

added-is : (t : Tables) (s : State) (k : ℕ) (before last : List Val) → output_after t s (k - 1) ≡ s.output ++ before →
    output_after t s k ≡ s.output ++ (before ++ last) → added t s k ≡ text last
added-is t s k before last before_is is =
    ap (λ q. text (drop (length q) (output_after t s k))) before_is
    ∙ ap (λ q. text (drop (length (s.output ++ before)) q)) (is ∙ sym (append_assoc s.output before last))
    ∙ ap text (drop-append_seam (s.output ++ before) last)

-- all steps were made
pub spent : (t : Tables) (s : State) (n k : ℕ) (u : State) (Shows : State → Type 0) (old new : Option (List ℕ)) → k ≡ n →
    RanSoFar t s k u old new → Shows u → Whole t s n k Shows old new ended_as.Spent
spent t s n k u Shows old new all so_far shows =
    let P : ℕ → Type 0 = λ q. RanSoFar t s q u old new in
    let end : RanSoFar t s n u old new = subst P all so_far in
    let Q : List ℕ → Type 0 = λ bytes. Appends old new bytes in
    record {
      answer_is = sym (ap (λ q. answer q.ending) end.ran_is);
      text_is = subst Q (sym (text-is t s n (end.before ++ end.last) (ap (λ q. q.state.output) end.ran_is ∙ end.output))) end.took;
      steps_are = all ∙ sym (ap (λ q. q.steps) end.ran_is);
      shows = subst Shows (sym (ap (λ q. q.state) end.ran_is)) shows;
    }

-- a run that ended before its last step
ended_early : (t : Tables) (s : State) (n k : ℕ) (u v : State) (Shows : State → Type 0) (old out : Option (List ℕ)) (result : Ended) (steps : ℕ)
    (e : Ending) → (so_far : RanSoFar t s k u old out) → ran t s n ≡ at_state v steps e → result ≡ answer e → v.output ≡ u.output → Shows v →
    Whole t s n steps Shows old out result
ended_early t s n k u v Shows old out result steps e so_far ran_is is output shows =
    let Q : List ℕ → Type 0 = λ bytes. Appends old out bytes in
    record {
      answer_is = is ∙ sym (ap (λ q. answer q.ending) ran_is);
      text_is = subst Q (sym (text-is t s n (so_far.before ++ so_far.last) (ap (λ q. q.state.output) ran_is ∙ output ∙ so_far.output))) so_far.took;
      steps_are = sym (ap (λ q. q.steps) ran_is);
      shows = subst Shows (sym (ap (λ q. q.state) ran_is)) shows;
    }

pub done : (t : Tables) (s : State) (n k : ℕ) (u v : State) (Shows : State → Type 0) (old out : Option (List ℕ)) → k < n →
    RanSoFar t s k u old out → Settles (next (classes_of t) u) u v outcome.Done → Shows v → Whole t s n (k + 1) Shows old out ended_as.Done
done t s n k u v Shows old out within so_far step shows =
    ended_early t s n k u v Shows old out ended_as.Done (k + 1) Done so_far
    (ran-done t s u v k n within so_far.ran_is so_far.some step.0 step.1) refl step.2 shows

pub trapped : (t : Tables) (s : State) (n k : ℕ) (u v : State) (kind : Trap) (line : ℕ) (Shows : State → Type 0) (old out : Option (List ℕ)) →
    k < n → RanSoFar t s k u old out → Settles (next (classes_of t) u) u v (outcome.Trap kind line) → Shows v →
    Whole t s n k Shows old out (ended_as.Trap kind line)
trapped t s n k u v kind line Shows old out within so_far step shows =
    ended_early t s n k u u Shows old out (ended_as.Trap kind line) k (Stopped kind line) so_far
    (ran-trapped t s u k n kind line within so_far.ran_is step.0) refl refl (subst Shows step.1 shows)

-- a state that is still shown where a run so far stood
stands : (t : Tables) (s : State) (n k : ℕ) (u v : State) (Shows : State → Type 0) (old out : Option (List ℕ)) → k < n →
    RanSoFar t s k u old out → v ≡ u → Shows v → StandsAt t s n k Shows
stands t s n k u v Shows old out within so_far same shows = record {
  within = omega arith;
  made = ap (λ q. q.steps) so_far.ran_is;
  shows = subst Shows (same ∙ sym (ap (λ q. q.state) so_far.ran_is)) shows;
}

-- a run that was cut off before a step
pub cut_before : (t : Tables) (s : State) (n k : ℕ) (u v : State) (Shows : State → Type 0) (old out : Option (List ℕ)) → k < n →
    RanSoFar t s k u old out → v ≡ u → Shows v → CutOff t s n k Shows old out
cut_before t s n k u v Shows old out within so_far same shows =
    let Q : List ℕ → Type 0 = λ bytes. Appends old out bytes in
    let output_is : output_after t s k ≡ s.output ++ (so_far.before ++ so_far.last) = ap (λ q. q.state.output) so_far.ran_is ∙ so_far.output in
    let whole = added-is t s k so_far.before so_far.last so_far.output_before output_is in
    let before_is = text-is t s (k - 1) so_far.before so_far.output_before in
    record {
      stands = stands t s n k u v Shows old out within so_far same shows;
      wrote = (
        text so_far.last,
        record { rest = []; whole_is = whole ∙ sym (append-nil (text so_far.last)) },
        subst Q (text-append so_far.before so_far.last ∙ ap (λ q. q ++ text so_far.last) (sym before_is)) so_far.took,
      );
    }

-- a run that was cut off before a step that asks for the input
pub cut_at_input : (t : Tables) (s : State) (n k : ℕ) (u v : State) (Shows : State → Type 0) (old out : Option (List ℕ)) → k < n →
    first_asks u.items ≡ true → RanSoFar t s k u old out → v ≡ u → Shows v → CutAtInput t s n k Shows old out
cut_at_input t s n k u v Shows old out within asks so_far same shows =
    let Q : List ℕ → Type 0 = λ bytes. Appends old out bytes in
    record {
      stands = stands t s n k u v Shows old out within so_far same shows;
      before = within;
      asks = ap (λ q. first_asks q.state.items) so_far.ran_is ∙ asks;
      wrote = subst Q (sym (text-is t s k (so_far.before ++ so_far.last) (ap (λ q. q.state.output) so_far.ran_is ∙ so_far.output))) so_far.took;
    }

-- a run whose last line wasn't taken whole
pub cut_behind : (t : Tables) (s : State) (n k : ℕ) (u v : State) (value : Val) (Shows : State → Type 0) (old between out : Option (List ℕ)) →
    k < n → RanSoFar t s k u old between → Settles (next (classes_of t) u) u v (outcome.Printed value) → Shows v →
    AppendsPart between out (line_text value) → CutOff t s n (k + 1) Shows old out
cut_behind t s n k u v value Shows old between out within so_far step shows part =
    let back : (k + 1) - 1 ≡ k = omega arith in
    let all = so_far.before ++ so_far.last in
    let went = ran-went t s u v k so_far.ran_is so_far.some step.0 in
    let before_is : output_after t s ((k + 1) - 1) ≡ s.output ++ all =
    ap (output_after t s) back ∙ ap (λ q. q.state.output) so_far.ran_is ∙ so_far.output in
    let now_is : output_after t s (k + 1) ≡ s.output ++ (all ++ value ∷ []) =
    ap (λ q. q.state.output) went ∙ step.2 ∙ ap (λ q. q ++ value ∷ []) so_far.output ∙ append_assoc s.output all (value ∷ []) in
    let line_is : added t s (k + 1) ≡ line_text value =
    added-is t s (k + 1) all (value ∷ []) before_is now_is ∙ append-nil (line_text value) in
    let Q : List ℕ → Type 0 = λ bytes. Appends old out (bytes ++ part.0) in
    record {
      stands = record { within = omega arith; made = ap (λ q. q.steps) went; shows = subst Shows (sym (ap (λ q. q.state) went)) shows };
      wrote = (
        part.0,
        record { rest = part.1.rest; whole_is = line_is ∙ part.1.whole_is },
        subst Q (sym (text-is t s ((k + 1) - 1) all before_is)) (Appends-more old between out (text all) part.0 so_far.took part.2),
      );
    }

-- where none of the steps so far asks, and this one doesn't either, what held before it holds behind it
pub none_more : (t : Tables) (s : State) (k : ℕ) (u : State) (old new : Option (List ℕ)) (Before After : Type 0) →
    RanSoFar t s k u old new → (NoneAsks t s k → Before) → (first_asks u.items ≡ false → Before → After) → NoneAsks t s (k + 1) → After
none_more t s k u old new Before After so_far before more none =
    more (ap (λ q. first_asks q.state.items) (sym so_far.ran_is) ∙ none k (omega arith)) (before (λ j l. none j (omega arith)))
