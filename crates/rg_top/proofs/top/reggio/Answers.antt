-- What the top call promises, from what the layers under it have answered.
use Rattle.std.proofs.Common.{◌≡◌, ◌≤◌, ◌⊎◌, ℕ, inl, inr, refl, sym, ap, ◌∙◌, List, Option, subst, arith, rules}
use Rattle.rg_io.specs.Content.{Rose}
use Rattle.rg_io.proofs.Content.{Rose-since}
use Rattle.rg_run.specs.Asked.{both}
use Rattle.rg_run.specs.Machine.{Kept}
use Rattle.rg_words.specs.declared.status.Status.TheVariants as status
use Rattle.rg_words.specs.Commands.{command, texts, may_open, may_read, may_schedule}
use Rattle.rg_words.specs.Requests.{command_for}
use Rattle.rg_words.specs.Statuses.{is_refusal}
use Rattle.rg_commands.specs.Settled.{Chooses}
use Rattle.rg_top.proofs.Answer.{Answered, answer-exactly, answer-refused, answer-complete, answer-unread, answer-unrun, on-false, usage-chosen, usage-faults}
use Rattle.rg_top.proofs.Answer.{answer-unopened, answer-untouched, answer-output, answer-tuned, answer-usage, given-is, answer-chooses, tuned-moved}
use Rattle.rg_top.proofs.Answer.{answer-may, answer-unasked, does-moved, usage-exactly, on-fact, answer-opened, usage-opened}
use Rattle.rg_top.proofs.NoteLines.{asked-notes, asked-fault, unasked-notes, took-moved}
use Rattle.rg_commands.proofs.Asked.{yeses-fresh}
use Rattle.rg_top.proofs.Each.{each-answered, each-cut_off, each-cut_at_input}
use Rattle.rg_top.proofs.top.reggio.Given.{Over, Pacer-dyn}
use Rattle.rg_top.proofs.top.reggio.Goals as goal

-- the answer behind the layers under it, with the output and the machine as the call leaves them
answered : (g : Over) (c : goal.After-is_owned-in-Some g) {out : Option (List ℕ)} {m : Kept} →
    g.O.Sink.taken c.answer-status.new.self.out.now ≡ out → c.answer-status.new.self.machine.now ≡ m →
    Answered (g.F.Files.told c.args.files.now) (g.I.Source.left c.args.input.now) (texts c.args.words.now) c.answer-status.result
    c.tell_behind-told.result (g.O.Sink.taken c.args.out.now) out m (c.answer-status.new.input ≡ c.args.input.now)
    (both ((Pacer-dyn g c.args.count.now).tally c.args.count.now.1) ((Pacer-dyn g c.args.trace.now).tally c.args.trace.now.1))
    (both ((Pacer-dyn g c.args.count.now).tally c.answer-status.new.count) ((Pacer-dyn g c.args.trace.now).tally c.answer-status.new.trace))
answered g c out_is machine_is =
    let h = c.answer-status.ensures.settles in record {
      asked = command_for c.in-Some.task;
      command_is = c.in-Some.ensures.is;
      input = h.0;
      input_is = h.1;
      does = does-moved _ _ _ _ _ _ _ _ _ _ _ _ out_is machine_is h.2;
      told_is = c.tell_behind-told.ensures.told;
    }

-- from which count an output fault comes
output-cause : (g : Over) (c : goal.After-is_owned-in-Some g) {o n : ℕ} → g.O.Sink.faults c.answer-status.new.self.out.now ≡ o →
    g.R.Sink.faults c.tell_behind-told.new.setting.notes.now ≡ n → c.tell_behind-told.result ≡ status.OutputFault →
    Rose (g.O.Sink.faults c.args.out.now) o ⊎ Rose (g.R.Sink.faults c.args.notes.now) n
output-cause g c {o = o} {n = n} out_is notes_are = λ e.
    let caused = c.answer-status.ensures.caused in
    let O : ℕ → Type 0 = λ q. Rose (g.O.Sink.faults c.args.out.now) q
    ⊎ Rose (g.R.Sink.faults c.args.notes.now) (g.R.Sink.faults c.tell_behind-told.new.setting.notes.now) in
    let N : ℕ → Type 0 = λ q. Rose (g.O.Sink.faults c.args.out.now) o ⊎ Rose (g.R.Sink.faults c.args.notes.now) q in
    subst N notes_are
    (subst O out_is
    (answer-output _ _ _ _ _ _ caused.output_fault caused.notes_never_fall c.tell_behind-told.ensures.never_falls
    (c.tell_behind-told.ensures.failed e)))

pub returns-in-Some-clause-faults : goal.returns-in-Some-clause-faults
returns-in-Some-clause-faults g c =
    let caused = c.answer-status.ensures.caused in
    let told : g.R.Sink.faults c.args.notes.now ≤ g.R.Sink.faults c.tell_behind-told.new.setting.notes.now =
    omega (arith, caused.notes_never_fall, c.tell_behind-told.ensures.never_falls) in
    record {
      source_fault = λ i. c.answer-status.ensures.source_fault (given-is _ _ c.tell_behind-told.ensures.told (λ o. cc) (λ o. cc) ∙ i);
      input_fault = λ i. caused.input_fault (given-is _ _ c.tell_behind-told.ensures.told (λ o. cc) (λ o. cc) ∙ i);
      input_quiet = λ i o m. caused.input_quiet (λ e. i (sym (given-is _ _ c.tell_behind-told.ensures.told o m) ∙ e));
      output_fault = output-cause g c (search rules) (search rules);
      files_never_fall = c.answer-status.ensures.files_never_fall;
      input_never_falls = caused.input_never_falls;
      out_never_falls = subst (λ (q : ℕ). g.O.Sink.faults c.args.out.now ≤ q) (search rules) caused.output_never_falls;
      notes_never_fall = subst (λ (q : ℕ). g.R.Sink.faults c.args.notes.now ≤ q) (search rules) told;
    }

pub returns-in-None-clause-faults : goal.returns-in-None-clause-faults
returns-in-None-clause-faults g c = usage-faults _ _ _ _ _ _ c.tell.ensures.told c.tell.ensures.failed c.tell.ensures.never_falls

pub returns-in-Some-clause-notes : goal.returns-in-Some-clause-notes
returns-in-Some-clause-notes g c =
    took-moved _ _ _ _ _ _ _ _ _ (search rules) (search rules)
    (asked-notes (texts c.args.words.now) (command_for c.in-Some.task) _ c.answer-status.new.self.machine.now _ _ _ _ _ c.in-Some.ensures.is
    c.reports.ensures c.answer-status.ensures.notes _ _
    (answer-may (answered g c refl refl) _ _ c.answer-status.ensures.source_fault c.answer-status.ensures.caused.input_fault)
    _ c.steps_of.ensures c.tell_behind-told.ensures.took)

pub returns-in-None-clause-notes : goal.returns-in-None-clause-notes
returns-in-None-clause-notes g c =
    unasked-notes (texts c.args.words.now) _ c.args.machine.now c.tell.result _ _ c.in-None.ensures.is c.in-None.ensures.is
    (c.tell.ensures.took c.args.machine.now)

pub returns-in-Some-clause-output_fault_told : goal.returns-in-Some-clause-output_fault_told
returns-in-Some-clause-output_fault_told g c = λ e n.
    let R : ℕ → Type 0 = λ q. ¬ Rose (g.R.Sink.faults c.args.notes.now) q in
    let never : ¬ Rose (g.R.Sink.faults c.args.notes.now) (g.R.Sink.faults c.tell_behind-told.new.setting.notes.now) = subst R (search rules) n in
    let told = asked-fault (texts c.args.words.now) (command_for c.in-Some.task) _ c.answer-status.new.self.machine.now _ status.OutputFault _ _ _
    c.in-Some.ensures.is c.reports.ensures c.answer-status.ensures.notes
    (λ old h. c.tell_behind-told.ensures.output_fault_told old h e
    (λ r. never (Rose-since _ _ _ c.answer-status.ensures.caused.notes_never_fall r))) in
    search rules

pub returns-in-Some-clause-chosen : goal.returns-in-Some-clause-chosen
returns-in-Some-clause-chosen g c = record {
  tuned = tuned-moved (texts c.args.words.now) c.answer-status.new.self.machine.now _ _ _ (search rules)
      (answer-tuned (texts c.args.words.now) (command_for c.in-Some.task) _ _ _ c.in-Some.ensures.is c.answer-status.ensures.tuned);
  untuned = answer-unrun (texts c.args.words.now) (command_for c.in-Some.task) _ c.in-Some.ensures.is c.answer-status.ensures.untuned;
  slides = answer-chooses (texts c.args.words.now) (command_for c.in-Some.task) _ c.in-Some.ensures.is
      (subst (λ (m : Kept). Chooses (command_for c.in-Some.task) m) (search rules) c.answer-status.ensures.slides);
}

pub returns-in-None-clause-chosen : goal.returns-in-None-clause-chosen
returns-in-None-clause-chosen g c = usage-chosen (texts c.args.words.now) c.args.machine.now _ c.in-None.ensures.is

pub returns-in-Some-clause-answered : goal.returns-in-Some-clause-answered
returns-in-Some-clause-answered g c =
    each-answered c.each_runs.ensures (answered g c (search rules) (search rules))

pub returns-in-Some-clause-cut_off : goal.returns-in-Some-clause-cut_off
returns-in-Some-clause-cut_off g c =
    each-cut_off c.each_runs.ensures (answered g c (search rules) (search rules))

pub returns-in-Some-clause-cut_at_input : goal.returns-in-Some-clause-cut_at_input
returns-in-Some-clause-cut_at_input g c = each-cut_at_input c.each_runs.ensures (answered g c (search rules) (search rules))

pub returns-in-Some-clause-untouched : goal.returns-in-Some-clause-untouched
returns-in-Some-clause-untouched g c = answer-untouched (answered g c (search rules) (search rules))

pub returns-in-Some-clause-unread : goal.returns-in-Some-clause-unread
returns-in-Some-clause-unread g c = (
  answer-unopened (texts c.args.words.now) (command_for c.in-Some.task) _ c.in-Some.ensures.is c.answer-status.ensures.files_unread,
  answer-unread (texts c.args.words.now) (command_for c.in-Some.task) _ c.in-Some.ensures.is c.answer-status.ensures.reads_nothing,
)

pub returns-in-None-clause-unread : goal.returns-in-None-clause-unread
returns-in-None-clause-unread g c =
    (on-false (may_open (command (texts c.args.words.now))) (λ off. refl), on-false (may_read (command (texts c.args.words.now))) (λ off. refl))

pub returns-in-Some-clause-opened : goal.returns-in-Some-clause-opened
returns-in-Some-clause-opened g c =
    answer-opened _ (texts c.args.words.now) (command_for c.in-Some.task) _ _ c.in-Some.ensures.is c.answer-status.ensures.opened

pub returns-in-None-clause-opened : goal.returns-in-None-clause-opened
returns-in-None-clause-opened g c = usage-opened _ (texts c.args.words.now) _ c.in-None.ensures.is

pub returns-in-Some-clause-usage : goal.returns-in-Some-clause-usage
returns-in-Some-clause-usage g c = answer-usage (answered g c refl refl)

pub returns-in-Some-clause-expected : goal.returns-in-Some-clause-expected
returns-in-Some-clause-expected g c = λ s answers. answer-exactly (answered g c refl refl) c.answers_are_one.ensures s answers

pub returns-in-Some-clause-whatever_input : goal.returns-in-Some-clause-whatever_input
returns-in-Some-clause-whatever_input g c = λ s bytes early.
    answer-refused (answered g c refl refl) c.answers_are_one.ensures s early.answers early.refuses early.unscheduled bytes

pub returns-in-Some-clause-complete : goal.returns-in-Some-clause-complete
returns-in-Some-clause-complete g c =
    λ asks. answer-complete (answered g c refl refl) _ _ _ _
    (λ i. c.answer-status.ensures.source_fault (given-is _ _ c.tell_behind-told.ensures.told (λ o. cc) (λ o. cc) ∙ i))
    (λ i. c.answer-status.ensures.caused.input_fault (given-is _ _ c.tell_behind-told.ensures.told (λ o. cc) (λ o. cc) ∙ i))
    (output-cause g c (search rules) (search rules))

pub returns-in-None-clause-untouched : goal.returns-in-None-clause-untouched
returns-in-None-clause-untouched g c = on-fact (is_refusal c.tell.result) _ (c.requires.fresh, refl, inr refl)

pub returns-in-None-clause-expected : goal.returns-in-None-clause-expected
returns-in-None-clause-expected g c = λ s answers. usage-exactly _ _ _ _ s c.in-None.ensures.is c.tell.ensures.told answers

pub returns-in-None-clause-whatever_input : goal.returns-in-None-clause-whatever_input
returns-in-None-clause-whatever_input g c = λ s bytes early. usage-exactly _ _ _ _ s c.in-None.ensures.is c.tell.ensures.told early.answers

pub returns-in-Some-clause-unasked : goal.returns-in-Some-clause-unasked
returns-in-Some-clause-unasked g c = answer-unasked (answered g c refl (search rules))

pub returns-in-Some-clause-yeses : goal.returns-in-Some-clause-yeses
returns-in-Some-clause-yeses g c = λ off. let said = c.answer-status.ensures.yeses (sym (ap may_schedule c.in-Some.ensures.is) ∙ off) in search rules

pub returns-in-None-clause-unasked : goal.returns-in-None-clause-unasked
returns-in-None-clause-unasked g c = λ off fresh. record { fresh = c.requires.fresh; count = refl; trace = refl }

pub returns-in-None-clause-yeses : goal.returns-in-None-clause-yeses
returns-in-None-clause-yeses g c = λ off. yeses-fresh _ _ _ _ _ c.requires.fresh refl refl
