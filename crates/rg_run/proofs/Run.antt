-- Runs of different numbers of steps, and the text that they print. For callers.
use Rattle.std.proofs.Common.{◌≡◌, ◌≢◌, ℕ, zero, suc, ◌+◌, ◌-◌, ◌≤◌, inl, Bool, true≢false, List, [], ◌∷◌, ◌++◌, length, drop, Option}
use Rattle.std.proofs.Common.{refl, sym, ap, ◌∙◌}
use Rattle.std.proofs.Common.{subst, arith, append-nil, append_assoc}
use Rattle.std.proofs.Math.Seq.{drop-append_seam}
use Rattle.rg_base.proofs.Callers.Texts.{text-append}
use Rattle.rg_base.specs.declared.value.Val.{Val}
use Rattle.rg_base.specs.declared.words.Manager.TheVariants.{Count, Trace}
use Rattle.rg_base.specs.declared.outcome.Ended.TheVariants as ended
use Rattle.rg_base.specs.Text.{text}
use Rattle.rg_io.specs.Content.{Appends, AppendsPart}
use Rattle.rg_tree.specs.Tree.{Class, Tree, Block, empty as none, then as followed_by}
use Rattle.rg_tree.specs.Rows.Tables.{Tables}
use Rattle.rg_tree.specs.Rows.RowTrees.{program_of, block_of}
use Rattle.rg_rules.specs.Outside.Asks.{asks_from}
use Rattle.rg_rules.specs.Items.{Item, EndAt, items_of}
use Rattle.rg_rules.specs.State.{State}
use Rattle.rg_rules.specs.Steps.{Stepped, Went, Trapped, step_item}
use Rattle.rg_rules.specs.Runs.{Done, opening, plain, plain_from}
use Rattle.rg_rules.specs.Outside.Texts.{text_of, added}
use Rattle.rg_input.specs.Numbers.{Pending, OnInput}
use Rattle.rg_input.proofs.Input.{OnInput-still}
use Rattle.rg_code.specs.Code.{Code}
use Rattle.rg_values.specs.Kept.{shown, items_from}
use Rattle.rg_plain.specs.Machine.{Machine, Begins}
use Rattle.rg_plain.specs.Runs.{WroteUpTo}
use Rattle.rg_plain.proofs.Rows.Machine.{ends-items_of}
use Rattle.rg_step.specs.Pacers.{Asks}
use Rattle.rg_step.specs.Stepping.{Since, Stepping, fresh}
use Rattle.rg_run.specs.Asked.{AskedOver, SinceYes, last_yes}
use Rattle.rg_run.specs.Machine.{IsFresh, Kept}
use Rattle.rg_run.specs.Whole.{WholeRun}
use Rattle.rg_run.proofs.None.{tells-none}
use Rattle.rg_run.proofs.Since.{SinceOver, CountsSince}
use Rattle.rg_run.proofs.Output.{GoesOn, run-later}

-- main's block is never without a thing to do
opening-some : (b : Block) → items_of b (EndAt 0 ∷ []) ≢ []
opening-some none e = cc
opening-some (followed_by s b) e = cc

-- a machine that has begun has something to do
pub begun-some : (t : Tables) (m : Machine) → Begins t m → m.kept.items ≢ []
unfolding items_from
begun-some t m begins empty =
    opening-some (block_of t t.body) (sym (ap (λ s. s.items) (begins.state [])) ∙ ap (shown t) empty)

-- no step has asked
asked-first : (t : Tree) (input : List ℕ) (a : Asks) → AskedOver t input 0 a a
unfolding asks_from
asked-first t input a = record { count = refl; trace = refl }

-- and the stepper has counted nothing
since-first : (t : Tree) (input : List ℕ) (st : Stepping) → st.steps ≡ 0 → st.since ≡ fresh.since → st.events ≡ [] → SinceOver t input 0 st
unfolding asks_from
since-first t input st first since events = record {
  steps = first;
  count = start st.since.count (last_yes Count st.events) (ap (λ (s : Since). s.count) since) (ap (last_yes Count) events);
  trace = start st.since.trace (last_yes Trace st.events) (ap (λ (s : Since). s.trace) since) (ap (last_yes Trace) events);
}
  where
    start : (n found : ℕ) → n ≡ 0 → found ≡ 0 → CountsSince 0 n found []
    start n found is last = record { counts = is; sooner = omega (arith, last); last = λ step past. refl }

pub since-none : (t : Tree) (input : List ℕ) (k : ℕ) (st : Stepping) → k ≡ 0 → st.steps ≡ 0 → st.since ≡ fresh.since → st.events ≡ [] →
    SinceOver t input k st
since-none t input k st zero_is first since events =
    let P : ℕ → Type 0 = λ q. SinceOver t input q st in subst P (sym zero_is) (since-first t input st first since events)

-- what a machine has counted is that
pub since-yes : (t : Tree) (input : List ℕ) (m : Kept) → SinceOver t input m.steps m.stepper → SinceYes t input m
since-yes t input m s = record { count = s.count.counts; trace = s.trace.counts }

pub asked-none : (t : Tree) (input : List ℕ) (k : ℕ) (a : Asks) → k ≡ 0 → AskedOver t input k a a
asked-none t input k a zero_is = let P : ℕ → Type 0 = λ q. AskedOver t input q a a in subst P (sym zero_is) (asked-first t input a)

-- where none has begun, nothing was read
pub not-begun : (t : Tables) (code : Code) (n : ℕ) (b : Bool) (p q : Stepping) (k : ℕ) (a : Pending) (left old : Option (List ℕ))
    (still : Type 0) (first : Asks) → IsFresh (record { begun = b; stepper = p; steps = k }) → q ≡ p → still →
    OnInput a a left left (WholeRun t code n old old (record { begun = b; stepper = q; steps = k }) ended.Memory still first first)
not-begun t code n b p q k a left old still first begins same quiet =
    let P : Stepping → Type 0 = λ r. IsFresh (record { begun = b; stepper = r; steps = k }) in
    let there : P q = subst P (sym same) begins in
    OnInput-still a a left left (WholeRun t code n old old (record { begun = b; stepper = q; steps = k }) ended.Memory still first first) refl refl
    (λ bytes. record {
      ran = inl (record { answer_is = refl; fresh = there; untouched = refl; unread = quiet });
      asked = asked-none (program_of t) bytes k first begins.steps;
      unasked = λ off. refl;
      since = since-yes (program_of t) bytes _ (since-none (program_of t) bytes k q begins.steps (ap (λ (s : Stepping). s.steps) there.stepper)
          (ap (λ (s : Stepping). s.since) there.stepper) (ap (λ (s : Stepping). s.events) there.stepper));
      told = tells-none (program_of t) bytes k q.events begins.steps (ap (λ (s : Stepping). s.events) there.stepper);
      states = λ is. absurd (true≢false (sym is ∙ begins.begun));
    })

-- a run is the one of as many steps as it made, and where it is done, that one is
pub record IsRunOf (classes : List Class) (d n made : ℕ) (s : State) : Type 0 where
  pub within : d ≤ n
  pub steps : (plain_from classes n made s).steps ≡ made + d
  pub made_steps : (plain_from classes d made s).steps ≡ made + d
  pub state : (plain_from classes d made s).state ≡ (plain_from classes n made s).state
  pub done : (plain_from classes n made s).ending ≡ Done → (plain_from classes d made s).ending ≡ Done

run-of-step : (classes : List Class) (n made : ℕ) (s : State) (i : Item) (rest : List Item) (step : Stepped) → s.items ≡ i ∷ rest →
    step_item classes (record s { items = rest }) i ≡ step →
    ((t : State) → (d : ℕ) × IsRunOf classes d n (made + 1) t) → (d : ℕ) × IsRunOf classes d (suc n) made s
unfolding plain_from
run-of-step classes n made s i rest (Went t) some e more =
    let m = more t in (
      suc m.0,
      record {
        within = omega (arith, m.1.within);
        steps = rw (some, e) (omega (arith, m.1.steps));
        made_steps = rw (some, e) (omega (arith, m.1.made_steps));
        state = rw (some, e) m.1.state;
        done = rw (some, e) m.1.done;
      },
    )
run-of-step classes n made s i rest (Trapped kind line) some e more = (
  0,
  record {
    within = omega arith;
    steps = rw (some, e) (omega arith);
    made_steps = omega arith;
    state = rw (some, e) refl;
    done = rw (some, e) (λ h. cc);
  },
)

run-of-on : (classes : List Class) (n made : ℕ) (s : State) (items : List Item) → s.items ≡ items →
    ((t : State) → (d : ℕ) × IsRunOf classes d n (made + 1) t) → (d : ℕ) × IsRunOf classes d (suc n) made s
unfolding plain_from
run-of-on classes n made s [] is more =
    (0, record { within = omega arith; steps = rw is (omega arith); made_steps = omega arith; state = rw is refl; done = rw is (λ h. h) })
run-of-on classes n made s (i ∷ rest) some more =
    run-of-step classes n made s i rest (step_item classes (record s { items = rest }) i) some refl more

pub run-of : (classes : List Class) (n made : ℕ) (s : State) → (d : ℕ) × IsRunOf classes d n made s
unfolding plain_from
run-of classes zero made s = (0, record { within = omega arith; steps = omega arith; made_steps = omega arith; state = refl; done = λ h. h })
run-of classes (suc n) made s = run-of-on classes n made s s.items refl (λ t. run-of classes n (made + 1) t)

-- the output of more steps goes on behind that of fewer
output-later : (t : Tree) (input : List ℕ) (j k : ℕ) → j ≤ k → GoesOn (plain t input j).state.output (plain t input k).state.output
output-later t input j k within =
    let P : ℕ → Type 0 = λ q. GoesOn (plain t input j).state.output (plain t input q).state.output in
    let same : (k - j) + j ≡ k = omega (arith, within) in
    subst P same (run-later t.classes 0 (k - j) j (opening t input) (ends-items_of t.body)).output

-- the text of an output, and of what was added to it
text-later : (xs ys : List Val) (g : GoesOn xs ys) → (text ys ≡ text xs ++ text g.0) × (text (drop (length xs) ys) ≡ text g.0)
text-later xs ys g = (ap text g.1 ∙ text-append xs g.0, ap (λ q. text (drop (length xs) q)) g.1 ∙ ap text (drop-append_seam xs g.0))

-- the text of fewer steps is a prefix of that of more
pub text-part : (t : Tree) (input : List ℕ) (k n : ℕ) (old new : Option (List ℕ)) → k ≤ n →
    Appends old new (text (plain t input k).state.output) → AppendsPart old new (text (plain t input n).state.output)
text-part t input k n old new within took =
    let g = output-later t input k n within in
    (_, record { rest = text g.0; whole_is = (text-later _ _ g).0 }, took)

-- the text of k steps is that of the steps before the last of them, and what that one added
pub text-split : (t : Tables) (input : List ℕ) (k : ℕ) →
    text_of t (opening (program_of t) input) (k - 1) ++ added t (opening (program_of t) input) k ≡ text (plain (program_of t) input k).state.output
text-split t input k =
    let g = output-later (program_of t) input (k - 1) k (omega arith) in
    let e = text-later _ _ g in
    sym (e.0 ∙ ap (λ q. text (plain (program_of t) input (k - 1)).state.output ++ q) (sym e.1))

-- a run that took all its text took that of the steps before its last, and then what that one added
pub wrote-whole : (t : Tables) (input : List ℕ) (k : ℕ) (old new : Option (List ℕ)) →
    Appends old new (text (plain (program_of t) input k).state.output) → WroteUpTo t (opening (program_of t) input) k old new
wrote-whole t input k old new took =
    let g = output-later (program_of t) input (k - 1) k (omega arith) in
    let e = text-later _ _ g in
    let P : List ℕ → Type 0 = λ bytes. Appends old new bytes in
    (text g.0, record { rest = []; whole_is = e.1 ∙ sym (append-nil (text g.0)) }, subst P e.0 took)

-- the text of the steps before step k, and a prefix of what that one added, are a prefix of the text of n steps
pub wrote-part : (t : Tables) (input : List ℕ) (k n : ℕ) (old new : Option (List ℕ)) → k ≤ n →
    WroteUpTo t (opening (program_of t) input) k old new → AppendsPart old new (text (plain (program_of t) input n).state.output)
wrote-part t input k n old new within wrote =
    let p = program_of t in
    let g = output-later p input (k - 1) k (omega arith) in
    let e = text-later _ _ g in
    let h = output-later p input k n within in
    let f = text-later _ _ h in
    let before = text (plain p input (k - 1)).state.output in
    let prefix = wrote.1 in
    let added_is : text g.0 ≡ wrote.0 ++ prefix.rest = sym e.1 ∙ prefix.whole_is in (
      before ++ wrote.0,
      record {
        rest = prefix.rest ++ text h.0;
        whole_is =
            f.0 ∙ ap (λ q. q ++ text h.0) (e.0 ∙ ap (λ q. before ++ q) added_is ∙ sym (append_assoc before wrote.0 prefix.rest))
            ∙ append_assoc (before ++ wrote.0) prefix.rest (text h.0);
      },
      wrote.2,
    )
