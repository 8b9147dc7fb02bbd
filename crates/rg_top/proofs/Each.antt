-- What was answered to a module holds of each program that raises it.
use Rattle.std.proofs.Common.{◌≡◌, ℕ, ◌⊎◌, inl, inr, Bool, true, false, List, length, Option, Some, None, refl, sym, ◌∙◌, ap, subst, arith}
use Rattle.std.specs.Bool.{OnTrue}
use Rattle.rg_base.specs.declared.fault.Fault.{Fault}
use Rattle.rg_base.specs.declared.words.Manager.{Manager}
use Rattle.rg_base.specs.declared.words.Manager.TheVariants.{Count, Trace}
use Rattle.rg_io.specs.Files.{Told}
use Rattle.rg_tree.specs.Tree.{Tree}
use Rattle.rg_tree.specs.Rows.Tables.{Tables}
use Rattle.rg_tree.specs.Rows.RowTrees.{program_of}
use Rattle.rg_rules.specs.Acceptance.{first_fault}
use Rattle.rg_lines.specs.Unlined.{SameButLines}
use Rattle.rg_lines.specs.Laws.{SameAsks}
use Rattle.rg_module.specs.Parts.{Parts}
use Rattle.rg_module.specs.Laws.{SpellsOneModule}
use Rattle.rg_raised.specs.Raises.{Raises}
use Rattle.rg_verify.specs.Told.{RaisedAlike}
use Rattle.rg_rules.specs.Outside.Asks.{asks}
use Rattle.rg_run.specs.Asked.{Asks, raised}
use Rattle.rg_run.specs.Machine.{Kept, IsFresh}
use Rattle.rg_run.specs.Sound.{Stands, NeverAsks}
use Rattle.rg_alike.specs.Laws.{StandAlike}
use Rattle.rg_alike.specs.Standing.{RunStands as StandsFor}
use Rattle.rg_words.specs.declared.status.Status.{Status}
use Rattle.rg_words.specs.Commands.{Command, run, plain, fmt, check, code, pack, bulk, exec, when, in_module, origin_of, steps_of, every_of}
use Rattle.rg_sources.specs.Sources.{Sources, Meaning, too_long, faulty, spelt, planned, MeansModule, Runs}
use Rattle.rg_sources.proofs.Meaning.{no-program}
use Rattle.rg_commands.specs.CutOff.{Untouched, CutOffAt, CutAtInput}
use Rattle.rg_words.specs.Commands.{is_scheduled}
use Rattle.rg_commands.specs.Asked.{RunAsks, AsksOver, input_for, tuned_to}
use Rattle.rg_commands.specs.Settled.{RunAsked}
use Rattle.rg_words.specs.declared.status.Status.TheVariants as status
use Rattle.rg_words.specs.Statuses.{is_answer, is_cut_off}
use Rattle.rg_top.proofs.Answer.{Answered, answer-answered, answer-cut, answer-input, on-true}
use Rattle.rg_top.specs.Headline.{ForSource, IfAccepted, RunStands, Leaves, Answers}
use Rattle.rg_top.specs.Each.{StandsForEach, AsksForEach, AsksSo, Beside, PacesFor}
use Rattle.rg_top.specs.Laws.{EachRuns}

-- programs that raise the module of the same bytes are alike
same-but_lines : RaisedAlike → SpellsOneModule → (bytes : List ℕ) (t u : Tree) → MeansModule bytes (spelt t) → MeansModule bytes (spelt u) →
    SameButLines t u
same-but_lines alike one bytes t u h k =
    let P : Parts → Type 0 = λ q. Raises q u in
    alike h.1 t u h.3 (subst P (one bytes k.1 h.1 k.2 h.2) k.3)

pub each-runs : RaisedAlike → SpellsOneModule → StandAlike → SameAsks → EachRuns
each-runs alike one stand ask = record {
  alike = λ file source t u h k.
      let same : SameButLines (program_of t) u = same-but_lines alike one source.file (program_of t) u h.means k.means in record {
        stands = λ input n m s. stand t u same k.accepted input n m s;
        asks = λ input n m old new a. a ∙ ap (λ xs. raised (length xs) old) (ask (program_of t) u same input n m);
      };
  no_fault = λ file source f u means runs. let h = runs.means in no-program one source.file f h.1 u means.1 h.2 h.3;
}

-- a run of each program stands, where one of the module's does
stands-each : EachRuns → (c : Command) (source : Sources) (input : List ℕ) (n : ℕ) (m : Kept) (t : Tables) →
    Runs (origin_of c) source (program_of t) → Stands t input n m → StandsForEach c source input n m
stands-each law (run slides file k every report) source input n m t runs s = tt
stands-each law (plain file k) source input n m t runs s = tt
stands-each law (fmt file) source input n m t runs s = tt
stands-each law (check file) source input n m t runs s = tt
stands-each law (code file) source input n m t runs s = tt
stands-each law (pack file) source input n m t runs s = tt
stands-each law (bulk size) source input n m t runs s = tt
stands-each law (when file plan keep) source input n m t runs s = tt
stands-each law (exec file k every report) source input n m t runs s = λ u each. (law.alike file source t u runs each).stands input n m s

-- the one of two facts that an accepted program has
accepted-of : (o : Option Fault) (accepted refused : Type 0) → o ≡ None → IfAccepted o accepted refused → accepted
accepted-of None accepted refused e h = h
accepted-of (Some f) accepted refused e h = absurd (cc)

-- what `exec` left of one meaning of its module is left of each program
left-each : EachRuns → (file : List ℕ) (n every : ℕ) (report : Bool) (source : Sources) (input : List ℕ) (k : Meaning) (m : Kept)
    (still : Type 0) → MeansModule source.file k → Leaves (exec file n every report) input k m still → (u : Tree) → Runs (in_module file) source u →
    StandsFor u input n m
left-each law file n every report source input too_long m still means left u runs =
    let h = runs.means in absurd (omega (arith, means, h.0))
left-each law file n every report source input (planned t p images) m still means left u runs = absurd means
left-each law file n every report source input (faulty f) m still means left u runs =
    absurd (law.no_fault file source f u means runs)
left-each law file n every report source input (spelt t) m still means left u runs =
    let here : RunStands t input n m × (NeverAsks t input n → still) =
    accepted-of (first_fault t) (RunStands t input n m × (NeverAsks t input n → still)) (IsFresh m × still) means.3.accepted left in
    let P : Tree → Type 0 = λ q. Runs (in_module file) source q in
    let one_runs : Runs (in_module file) source (program_of here.0.0) = subst P (sym here.0.1) (record { means = means; accepted = means.3.accepted }) in
    (law.alike file source here.0.0 u one_runs runs).stands input n m here.0.2

-- a fact on the source and the input of a command leads to another
for-source-map : (told : Option Told) (left : Option (List ℕ)) (words : List (List ℕ)) (P Q : Command → (source : Sources) (input : List ℕ) → Type 0) →
    ((c : Command) (source : Sources) (input : List ℕ) → P c source input → Q c source input) → ForSource told left words P → ForSource told left words Q
for-source-map told left words P Q f (c, source, asked, has, (input, is, p)) = (c, source, asked, has, (input, is, f c source input p))

-- what was answered
each-answer : EachRuns → (c : Command) (source : Sources) (input : List ℕ) (s : Status) (old new : Option (List ℕ)) (m : Kept) (still : Type 0) →
    Answers c source input s old new m still → StandsForEach c source input (steps_of c) m
each-answer law (run slides file n every report) source input s old new m still a = tt
each-answer law (plain file n) source input s old new m still a = tt
each-answer law (fmt file) source input s old new m still a = tt
each-answer law (check file) source input s old new m still a = tt
each-answer law (code file) source input s old new m still a = tt
each-answer law (pack file) source input s old new m still a = tt
each-answer law (bulk size) source input s old new m still a = tt
each-answer law (when file plan keep) source input s old new m still a = tt
each-answer law (exec file n every report) source input s old new m still a =
    λ u runs. left-each law file n every report source input a.meaning m still a.means a.leaves u runs

-- what was cut off
each-cut : EachRuns → (c : Command) (source : Sources) (input : List ℕ) (m : Kept) (old new : Option (List ℕ)) (still : Type 0) →
    CutOffAt c source input m old new still → StandsForEach c source input m.steps m
each-cut law (run slides file n every report) source input m old new still h = tt
each-cut law (plain file n) source input m old new still h = tt
each-cut law (fmt file) source input m old new still h = tt
each-cut law (check file) source input m old new still h = tt
each-cut law (code file) source input m old new still h = tt
each-cut law (pack file) source input m old new still h = tt
each-cut law (bulk size) source input m old new still h = tt
each-cut law (when file plan keep) source input m old new still h = tt
each-cut law (exec file n every report) source input m old new still h =
    stands-each law (exec file n every report) source input m.steps m h.0 h.1 h.2.stands

each-input : EachRuns → (c : Command) (source : Sources) (input : List ℕ) (m : Kept) (old new : Option (List ℕ)) → CutAtInput c source input m old new →
    StandsForEach c source input m.steps m
each-input law (run slides file n every report) source input m old new h = tt
each-input law (plain file n) source input m old new h = tt
each-input law (fmt file) source input m old new h = absurd h
each-input law (check file) source input m old new h = absurd h
each-input law (code file) source input m old new h = absurd h
each-input law (pack file) source input m old new h = absurd h
each-input law (bulk size) source input m old new h = absurd h
each-input law (when file plan keep) source input m old new h = tt
each-input law (exec file n every report) source input m old new h =
    stands-each law (exec file n every report) source input m.steps m h.0 h.1 h.2

-- whom it asked
each-asks : EachRuns → (c : Command) (source : Sources) (input : List ℕ) (m : Kept) (s : Status) (first last : Asks) →
    RunAsks (origin_of c) source (input_for (origin_of c) input) m s first last → AsksForEach c source input m first last
each-asks law (run slides file n every report) source input m s first last h = tt
each-asks law (plain file n) source input m s first last h = tt
each-asks law (fmt file) source input m s first last h = tt
each-asks law (check file) source input m s first last h = tt
each-asks law (code file) source input m s first last h = tt
each-asks law (pack file) source input m s first last h = tt
each-asks law (bulk size) source input m s first last h = tt
each-asks law (when file plan keep) source input m s first last h = tt
each-asks law (exec file n every report) source input m s first last h =
    λ p runs. let here = law.alike file source h.tables p h.runs runs in record {
      stands = here.stands input m.steps m h.stands;
      count = here.asks input m.steps Count first.count.asks last.count.asks h.count;
      trace = here.asks input m.steps Trace first.trace.asks last.trace.asks h.trace;
    }

module _ (law : EachRuns) (m : Kept) (s : Status) (old new : Asks) where
  -- how the pacers were asked, of each program
  paces-for : (c : Command) (source : Sources) (input : List ℕ) →
      (is_scheduled c ≡ false → RunAsked (origin_of c) source (input_for (origin_of c) input) s m (tuned_to (every_of c) old) new) →
      PacesFor c source input m s old new
  paces-for c source input h off = elim (h off) [
    | inl none ↦ inl (record { fresh = none.fresh; count = none.count; trace = none.trace })
    | inr r ↦ inr (r, each-asks law c source input m s _ new r)
  ]

module _ {told : Option Told} {left : Option (List ℕ)} {words : List (List ℕ)} {given answer : Status} {old new : Option (List ℕ)} {m : Kept}
    {still : Type 0} {before behind : Asks} (law : EachRuns) (a : Answered told left words given answer old new m still before behind) where
  abbrev Asked : Command → (source : Sources) (input : List ℕ) → Type 0
  Asked c source input =
      is_scheduled c ≡ false → RunAsked (origin_of c) source (input_for (origin_of c) input) answer m (tuned_to (every_of c) before) behind

  pub each-answered : OnTrue (is_answer answer) (ForSource told left words (λ c source input.
      Answers c source input answer old new m still × Beside c source input (steps_of c) m answer before behind))
  each-answered = on-true _ _ (is_answer answer) (answer-answered a)
      (for-source-map told left words (λ c source input. Answers c source input answer old new m still × Asked c source input) _
      (λ c source input h. (
        h.0,
        (each-answer law c source input answer old new m still h.0, paces-for law m answer before behind c source input h.1),
      )))

  pub each-cut_off : OnTrue (is_cut_off answer) (Untouched m old new still ⊎ ForSource told left words (λ c source input.
      CutOffAt c source input m old new still × Beside c source input m.steps m answer before behind))
  each-cut_off = on-true _ _ (is_cut_off answer) (answer-cut a) (λ h. elim h [
    | inl u ↦ inl u
    | inr k ↦ inr (for-source-map told left words (λ c source input. CutOffAt c source input m old new still × Asked c source input) _
        (λ c source input h. (
          h.0,
          (each-cut law c source input m old new still h.0, paces-for law m answer before behind c source input h.1),
        )) k)
  ])

  pub each-cut_at_input : answer ≡ status.InputFault → ForSource told left words (λ c source input.
      CutAtInput c source input m old new × Beside c source input m.steps m answer before behind)
  each-cut_at_input e =
      for-source-map told left words (λ c source input. CutAtInput c source input m old new × Asked c source input) _
      (λ c source input h. (
        h.0,
        (each-input law c source input m old new h.0, paces-for law m answer before behind c source input h.1),
      )) (answer-input a e)
