-- A command answers one thing to its files, and one status.
use Rattle.std.proofs.Common.{◌≡◌, ℕ, Bool, true, false, List, [], length, slice_index_or, Option, Some, None, refl, sym, ◌∙◌}
use Rattle.std.proofs.Common.{ap, subst}
use Rattle.std.proofs.Common.{arith}
use Rattle.rg_base.specs.declared.fault.Fault.{Fault}
use Rattle.rg_base.specs.declared.outcome.EndNumbers.{EndNumbers}
use Rattle.rg_tree.specs.Tree.{Tree}
use Rattle.rg_rules.specs.Acceptance.{Accepted, first_fault}
use Rattle.rg_rules.specs.Runs.{Ending, Running, Done, Stopped, Ran}
use Rattle.rg_rules.specs.Runs as rules
use Rattle.rg_lines.specs.Laws.{SameRuns}
use Rattle.rg_module.specs.Parts.{Parts}
use Rattle.rg_module.specs.Laws.{SpellsOneModule}
use Rattle.rg_raised.specs.Raises.{Raises}
use Rattle.rg_verify.specs.Told.{RaisedAlike}
use Rattle.rg_words.specs.declared.status.Status.{Status}
use Rattle.rg_base.specs.Text.{text}
use Rattle.rg_words.specs.Commands.{Command, run, plain, fmt, check, code, pack, bulk, exec, when, origin_of, keep_of, is_scheduled}
use Rattle.rg_words.specs.Statuses.{is_refusal, IsBadSchedule}
use Rattle.rg_words.specs.Answers.{Answer, refused}
use Rattle.rg_sources.specs.Sources.{Sources, planned, Meaning, too_long, faulty, spelt}
use Rattle.rg_sources.specs.Sources.{MeansModule, MeansFrom}
use Rattle.rg_sources.proofs.Meaning.{means-one, no-program-one, no-program, plan-one}
use Rattle.rg_when.specs.Scheduled.{told_behind, kept_of, answer_behind, said_answer}
use Rattle.rg_commands.specs.Expected.{status_of, run_answer, unless_fault, expected, ExpectsStatus}
use Rattle.rg_base.specs.declared.fault.Code.TheVariants.{Schedule}
use Rattle.rg_cown.specs.Cargo.{CargoList}
use Rattle.rg_plan.specs.Plans.{PlanOf}
use Rattle.rg_sched_atomic.specs.Contents.{Content, Away, Empty, Held}
use Rattle.rg_loading.specs.Laws.{LoadsComeToOne}
use Rattle.rg_when.specs.Scheduled.{Said, Whole, BadBehind, TooLong, schedule_of, item_behind}
use Rattle.rg_words.specs.declared.status.Status.TheVariants as status
use Rattle.rg_commands.specs.Laws.{OneAnswer}
use Rattle.rg_commands.proofs.Settled.{no_lie}

-- what an accepted program answers
run-accepted : (t : Tree) (input : List ℕ) (n : ℕ) → Accepted t → unless_fault (first_fault t) (run_answer t input n) ≡ run_answer t input n
run-accepted t input n accepted = rw accepted refl

-- programs that raise one module have the same run
raised-one : RaisedAlike → SameRuns → (m : Parts) (t u : Tree) (input : List ℕ) (n : ℕ) → Raises m t → Raises m u →
    unless_fault (first_fault t) (run_answer t input n) ≡ unless_fault (first_fault u) (run_answer u input n)
raised-one alike runs m t u input n h k =
    let answer : Ran → Answer = λ r. record { status = status_of r.ending; text = text r.state.output } in
    run-accepted t input n h.accepted ∙ ap answer (runs t u (alike m t u h k) input n) ∙ sym (run-accepted u input n k.accepted)

-- a module is answered one thing
module-one : RaisedAlike → SameRuns → SpellsOneModule → (file : List ℕ) (n every : ℕ) (report : Bool) (p : EndNumbers) (bytes input : List ℕ)
    (m k : Meaning) → MeansModule bytes m → MeansModule bytes k →
    expected (exec file n every report) p input m ≡ expected (exec file n every report) p input k
module-one alike runs one file n every report p bytes input (planned t plan images) k h g = absurd h
module-one alike runs one file n every report p bytes input too_long (planned t plan images) h g = absurd g
module-one alike runs one file n every report p bytes input (faulty f) (planned t plan images) h g = absurd g
module-one alike runs one file n every report p bytes input (spelt u) (planned t plan images) h g = absurd g
module-one alike runs one file n every report p bytes input too_long too_long h g = refl
module-one alike runs one file n every report p bytes input too_long (faulty f) h g = absurd (omega arith)
module-one alike runs one file n every report p bytes input too_long (spelt u) h g = absurd (omega arith)
module-one alike runs one file n every report p bytes input (faulty e) too_long h g = absurd (omega arith)
module-one alike runs one file n every report p bytes input (faulty e) (faulty f) h g = ap refused (no-program-one one bytes e f h.1 g.1)
module-one alike runs one file n every report p bytes input (faulty e) (spelt u) h g = absurd (no-program one bytes e g.1 u h.1 g.2 g.3)
module-one alike runs one file n every report p bytes input (spelt t) too_long h g = absurd (omega arith)
module-one alike runs one file n every report p bytes input (spelt t) (faulty f) h g = absurd (no-program one bytes f h.1 t g.1 h.2 h.3)
module-one alike runs one file n every report p bytes input (spelt t) (spelt u) h g =
    let P : Parts → Type 0 = λ q. Raises q u in
    raised-one alike runs h.1 t u input n h.3 (subst P (one bytes g.1 h.1 g.2 h.2) g.3)

-- a command answers one thing to its bytes
pub one-answer : RaisedAlike → SameRuns → SpellsOneModule → LoadsComeToOne → OneAnswer
one-answer alike runs one loads (run slides file n every report) p source input m k h g =
    ap (expected (run slides file n every report) p input) (means-one source.file m k h g)
one-answer alike runs one loads (plain file n) p source input m k h g = ap (expected (plain file n) p input) (means-one source.file m k h g)
one-answer alike runs one loads (fmt file) p source input m k h g = ap (expected (fmt file) p input) (means-one source.file m k h g)
one-answer alike runs one loads (check file) p source input m k h g = ap (expected (check file) p input) (means-one source.file m k h g)
one-answer alike runs one loads (code file) p source input m k h g = ap (expected (code file) p input) (means-one source.file m k h g)
one-answer alike runs one loads (pack file) p source input m k h g = ap (expected (pack file) p input) (means-one source.file m k h g)
one-answer alike runs one loads (bulk size) p source input m k h g = ap (expected (bulk size) p input) (h ∙ sym g)
one-answer alike runs one loads (exec file n every report) p source input m k h g = module-one alike runs one file n every report p source.file input m k h g
one-answer alike runs one loads (when file plan keep) p source input m k h g = ap (expected (when file plan keep) p input) (plan-one loads keep source m k h g)

-- the status doesn't depend on the machine's numbers
status-any : (c : Command) (p q : EndNumbers) (input : List ℕ) (m : Meaning) → (expected c p input m).status ≡ (expected c q input m).status
status-any c p q input too_long = refl
status-any c p q input (faulty f) = refl
status-any c p q input (planned t plan images) = refl
status-any (run slides file n every report) p q input (spelt t) = refl
status-any (plain file n) p q input (spelt t) = refl
status-any (fmt file) p q input (spelt t) = refl
status-any (check file) p q input (spelt t) = refl
status-any (code file) p q input (spelt t) = refl
status-any (pack file) p q input (spelt t) = refl
status-any (bulk size) p q input (spelt t) = refl
status-any (exec file n every report) p q input (spelt t) = refl
status-any (when file plan keep) p q input (spelt t) = refl

-- a command answers one status to a source, on one input
pub expects-one : OneAnswer → (c : Command) (source : Sources) (input : List ℕ) (s t : Status) → ExpectsStatus c source input s → ExpectsStatus c source input t →
    s ≡ t
expects-one law c source input s t h g =
    let same : expected c g.0 input h.2.0 ≡ expected c g.0 input g.2.0 = law c g.0 source input h.2.0 g.2.0 h.2.1 g.2.1 in
    let here : (expected c h.0 input h.2.0).status ≡ s = ap (λ (a : Answer). a.status) h.2.2 in
    let there : (expected c g.0 input g.2.0).status ≡ t = ap (λ (a : Answer). a.status) g.2.2 in
    sym here ∙ status-any c h.0 g.0 input h.2.0 ∙ ap (λ (a : Answer). a.status) same ∙ there

-- a run refuses nothing
runs-on : (e : Ending) → is_refusal (status_of e) ≡ false
runs-on Running = refl
runs-on Done = refl
runs-on (Stopped kind line) = refl

refusal-ran : (t : Tree) (i j : List ℕ) (n : ℕ) (o : Option Fault) (s : Status) (text : List ℕ) → is_refusal s ≡ true →
    unless_fault o (run_answer t i n) ≡ record { status = s; text = text } → unless_fault o (run_answer t j n) ≡ record { status = s; text = text }
refusal-ran t i j n (Some f) s text r e = e
refusal-ran t i j n None s text r e =
    let no : is_refusal (status_of (rules.plain t i n).ending) ≡ false = runs-on (rules.plain t i n).ending in
    let same : status_of (rules.plain t i n).ending ≡ s = ap (λ (a : Answer). a.status) e in
    absurd (cc)

-- what is answered behind a schedule refuses nothing
kept-on : (c : Content) (n : ℕ) → is_refusal (kept_of c n).status ≡ false
kept-on Away n = refl
kept-on Empty n = refl
kept-on (Held c) n = refl

behind-on : (t : Tree) (p : PlanOf) (images : List CargoList) (keep : Option ℕ) (numbers : List ℕ) →
    is_refusal (answer_behind t p images keep numbers).status ≡ false
behind-on t p images None numbers = refl
behind-on t p images (Some k) numbers = kept-on (slice_index_or (told_behind t p images numbers).contents k Empty) (length numbers)

-- a schedule is refused for itself
pub said-refused : (t : Tree) (p : PlanOf) (images : List CargoList) (keep : Option ℕ) (said : Said) (s : Status) (text : List ℕ) →
    is_refusal s ≡ true → said_answer t p images keep said ≡ record { status = s; text = text } → IsBadSchedule s × (text ≡ [])
said-refused t p images keep (Whole numbers) s text r e =
    let no = behind-on t p images keep numbers in
    let same : (answer_behind t p images keep numbers).status ≡ s = ap (λ (a : Answer). a.status) e in
    absurd (no_lie (sym r ∙ sym (ap is_refusal same) ∙ no))
said-refused t p images keep (BadBehind numbers) s text r e =
    let same : status.Refused (record { code = Schedule; line = item_behind numbers }) ≡ s = ap (λ (a : Answer). a.status) e in
    (subst IsBadSchedule same refl, sym (ap (λ (a : Answer). a.text) e))
said-refused t p images keep (TooLong numbers) s text r e = let same : status.Spent ≡ s = ap (λ (a : Answer). a.status) e in absurd (cc)

refusal-spelt : (c : Command) (p : EndNumbers) (i j : List ℕ) (t : Tree) (s : Status) (text : List ℕ) → is_refusal s ≡ true →
    expected c p i (spelt t) ≡ record { status = s; text = text } → expected c p j (spelt t) ≡ record { status = s; text = text }
refusal-spelt (run slides file n every report) p i j t s text r e = refusal-ran t i j n (first_fault t) s text r e
refusal-spelt (plain file n) p i j t s text r e = refusal-ran t i j n (first_fault t) s text r e
refusal-spelt (fmt file) p i j t s text r e = e
refusal-spelt (check file) p i j t s text r e = e
refusal-spelt (code file) p i j t s text r e = e
refusal-spelt (pack file) p i j t s text r e = e
refusal-spelt (bulk size) p i j t s text r e = e
refusal-spelt (exec file n every report) p i j t s text r e = refusal-ran t i j n (first_fault t) s text r e
refusal-spelt (when file plan keep) p i j t s text r e = e

-- a plan is meant to `when` alone
pub plan-needed : (c : Command) (source : Sources) (t : Tree) (p : PlanOf) (images : List CargoList) →
    MeansFrom (origin_of c) source (planned t p images) → is_scheduled c ≡ true
plan-needed (run slides file n every report) source t p images h = absurd h
plan-needed (plain file n) source t p images h = absurd h
plan-needed (fmt file) source t p images h = absurd h
plan-needed (check file) source t p images h = absurd h
plan-needed (code file) source t p images h = absurd h
plan-needed (pack file) source t p images h = absurd h
plan-needed (bulk size) source t p images h = cc
plan-needed (exec file n every report) source t p images h = absurd h
plan-needed (when file plan keep) source t p images h = refl

refusal-meant : (c : Command) (source : Sources) (p : EndNumbers) (i j : List ℕ) (m : Meaning) (s : Status) (text : List ℕ) →
    MeansFrom (origin_of c) source m → is_refusal s ≡ true → (is_scheduled c ≡ true → ¬ IsBadSchedule s) →
    expected c p i m ≡ record { status = s; text = text } → expected c p j m ≡ record { status = s; text = text }
refusal-meant c source p i j too_long s text h r n e = e
refusal-meant c source p i j (faulty f) s text h r n e = e
refusal-meant c source p i j (planned t plan images) s text h r n e =
    absurd (n (plan-needed c source t plan images h)
    (said-refused t plan images (keep_of c) (schedule_of (length plan.behaviours) i) s text r e).0)
refusal-meant c source p i j (spelt t) s text h r n e = refusal-spelt c p i j t s text r e

-- a refusal that isn't of a schedule doesn't depend on the input
pub refusal-any : (c : Command) (source : Sources) (i j : List ℕ) (s : Status) → is_refusal s ≡ true →
    (is_scheduled c ≡ true → ¬ IsBadSchedule s) → ExpectsStatus c source i s → ExpectsStatus c source j s
refusal-any c source i j s r n h = (h.0, h.1, (h.2.0, h.2.1, refusal-meant c source h.0 i j h.2.0 s h.1 h.2.1 r n h.2.2))
