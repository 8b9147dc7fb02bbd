-- The turns and the ends of a run, by the lemma of each.
use Rattle.std.proofs.Common.{◌≡◌, ◌-◌, ◌^◌, ◌<◌, ℕ, [], Err, refl, sym, ap, subst, arith, ◌∙◌, true≢false}
use Rattle.rg_base.specs.declared.outcome.Ended.TheVariants as ended
use Rattle.rg_io.proofs.Content.{Appends-none, Rose-since}
use Rattle.rg_tree.specs.Rows.Tables.{Tables}
use Rattle.rg_tree.specs.Rows.RowTrees.{program_of}
use Rattle.rg_rules.specs.Acceptance.{Accepted}
use Rattle.rg_input.proofs.Input.{OnInput-still}
use Rattle.rg_machine.specs.Parts.{machine_in}
use Rattle.rg_step.specs.States.{Opens}
use Rattle.rg_step.specs.Steps.{opening_machine}
use Rattle.rg_step.specs.Stepping.{Stepping, fresh, IsFresh as IsAtStart}
use Rattle.rg_run.proofs.Ask.{yeses-none, yeses-of, yeses-more}
use Rattle.rg_run.proofs.Loop.{ends-so, goes-on, spent, turned-leapt}
use Rattle.rg_run.proofs.Run.{asked-none, not-begun, since-none}
use Rattle.rg_run.proofs.None.{tells-none}
use Rattle.rg_run.proofs.State.{opened}
use Rattle.rg_run.proofs.Turn.{Between, Turns, begins, is-running}
use Rattle.rg_run.proofs.Report.{few-behind, failed-input, goes_faultless, input-failed, rose-since}
use Rattle.rg_run.proofs.Report.{reports-front, reports-none, reports-of, reports-same, reports-unbegun}
use Rattle.rg_run.proofs.inside.Inside.run.Goals as goal

pub begin-requires : goal.begin-requires
begin-requires g c = c.requires.fresh.stepper

pub loop-self-init : goal.loop-self-init
loop-self-init g c =
    let t = c.args.task.now.accepted.now.program in
    let code = c.args.task.now.code.now in
    let m = machine_in c.begin.new.self.parts in
    let content = g.O.Sink.taken c.args.sinks.now.out.now in
    let Still : Type 0 = (c.args.input.now ≡ c.args.input.now) × (c.args.source.now ≡ c.args.source.now) in
    let P : Tables → Type 0 = λ q. Accepted (program_of q) in
    let accepted : P t = subst P c.program.ensures.program c.program.ensures.accepted in
    let h = c.in-Ok.ensures.begun in
    let opens : Opens code t.manager h.0 =
    subst (λ m. Opens code m h.0) (c.main_manager-manager.ensures ∙ ap (λ (q : Tables). q.manager) c.program.ensures.program) h.1 in
    let begun : c.begin.new.self ≡ record fresh { parts = h.0; slides = c.args.self.now.stepper.slides } =
    h.2 ∙ ap (λ (s : Stepping). record s { parts = h.0 }) c.requires.fresh.stepper in
    let is : m ≡ opening_machine code t.manager = ap (λ (s : Stepping). machine_in s.parts) begun ∙ opens.shows in
    record {
      begun = refl;
      slides = ap (λ (s : Stepping). s.slides) begun;
      follows = c.requires.follows;
      within = omega (arith, c.requires.fresh.steps);
      source_never_falls = omega arith;
      source_quiet = refl;
      sink_never_falls = omega arith;
      notes_never_fall = omega arith;
      lent = (refl, refl);
      tuned = (refl, refl);
      reports = reports-same c.args.task.now.report ended.Spent [] c.begin.new.self.events _ _ (ap (λ (s : Stepping). s.events) begun)
          (reports-none c.args.task.now.report (g.R.Sink.taken c.args.sinks.now.notes.now));
      yeses = yeses-none c.begin.new.self.events _ (ap (λ (s : Stepping). s.events) begun);
      turns = OnInput-still _ _ _ _ (Turns t code c.args.self.now.steps c.begin.new.self content content Still _ _) refl refl (λ bytes.
          let Q : ℕ → Type 0 = λ k. Between t code k m content content Still bytes bytes in
          record {
            between = subst Q (sym c.requires.fresh.steps)
                (begins t code m content Still bytes accepted c.requires.lowers is (Appends-none content) (refl, refl));
            asked = asked-none (program_of t) bytes c.args.self.now.steps _ c.requires.fresh.steps;
            since = since-none (program_of t) bytes c.args.self.now.steps c.begin.new.self c.requires.fresh.steps
                (ap (λ (s : Stepping). s.steps) begun) (ap (λ (s : Stepping). s.since) begun) (ap (λ (s : Stepping). s.events) begun);
            told = tells-none (program_of t) bytes c.args.self.now.steps c.begin.new.self.events c.requires.fresh.steps
                (ap (λ (s : Stepping). s.events) begun);
            states = opened h.0 c.args.self.now.stepper.slides c.begin.new.self opens begun c.requires.fresh.steps bytes;
          });
    }

pub step-outcome-requires-clause-runs : goal.step-outcome-requires-clause-runs
step-outcome-requires-clause-runs g c = is-running c.loop-self.invariant.follows c.loop-self.invariant.turns

pub counted-self-requires : goal.counted-self-requires
counted-self-requires g c = omega (arith, c.loop-self-test.true, c.most-n.type_inv)

pub give-requires : goal.give-requires
give-requires g c =
    record { few = few-behind _ c.step-outcome.result _ _ _ _ c.events-told.ensures c.events.ensures c.step-outcome.ensures.events }

pub leap-requires : goal.leap-requires
leap-requires g c =
    let step = c.step-outcome.ensures in
    let room : c.loop-self.self.steps < 2 ^ 64 - 1 = omega (arith, c.loop-self-test.true, c.most-n.type_inv) in
    is-running step.follows
    (goes-on c.loop-self.invariant.turns step.reads_nothing room _ c.step-outcome.result step.one c.counted-self.ensures.behind
    c.in-Ok-give.ensures.gives)

pub loop-self-preserved : goal.loop-self-preserved
loop-self-preserved g c =
    let so_far = c.loop-self.invariant in
    let step = c.step-outcome.ensures in
    let steps = c.counted-self.ensures in
    let given = c.in-Ok-give.ensures in
    let leap = c.leap.ensures in
    let new = c.step-outcome.new.stepper in
    let room : c.loop-self.self.steps < 2 ^ 64 - 1 = omega (arith, c.loop-self-test.true, c.most-n.type_inv) in
    record {
      begun = so_far.begun;
      slides = leap.slides ∙ step.slides ∙ so_far.slides;
      follows = step.follows;
      within = omega (arith, c.loop-self-test.true, steps.most, leap.most);
      source_never_falls = omega (arith, so_far.source_never_falls, step.never_falls);
      source_quiet = step.no_fault (goes_faultless _ _ _ _ c.step-outcome.result given.gives) ∙ so_far.source_quiet;
      sink_never_falls = omega (arith, so_far.sink_never_falls, given.sink_never_falls);
      notes_never_fall = omega (arith, so_far.notes_never_fall, given.notes_never_fall);
      lent = (given.lent.0 ∙ so_far.lent.0, given.lent.1 ∙ so_far.lent.1);
      tuned = (step.tuned.0 ∙ so_far.tuned.0, step.tuned.1 ∙ so_far.tuned.1);
      reports = reports-same c.args.task.now.report ended.Spent new.events c.leap.new.self.events _ _ leap.events
          (reports-of c.args.task.now.report ended.Spent c.events.result.now new.events _ _ c.events.ensures
          (given.reports (g.R.Sink.taken c.args.sinks.now.notes.now)
          (reports-front _ c.step-outcome.result c.args.task.now.report _ _ _ _ _ _ c.events-told.ensures c.events.ensures
          step.events so_far.reports)));
      yeses = yeses-of new.events c.leap.new.self.events _ _ leap.events
          (yeses-more c.loop-self.self.stepper.events new.events _ _ _ so_far.yeses step.yeses);
      turns = turned-leapt c.leap.result
          (goes-on so_far.turns step.reads_nothing room _ c.step-outcome.result step.one steps.behind given.gives) leap.leaps leap.since leap.events
          leap.slides leap.counts (omega (arith, c.loop-self-test.true, steps.most, leap.most, c.most-n.type_inv)) (leap.chain _);
    }

pub returns-in-Err-clause-run : goal.returns-in-Err-clause-run
returns-in-Err-clause-run g c =
    let so_far = c.loop-self.invariant in
    let step = c.step-outcome.ensures in
    let within : c.loop-self.self.steps < c.args.task.now.n = omega (arith, c.loop-self-test.true, c.most-n.ensures) in
    let room : c.loop-self.self.steps < 2 ^ 64 - 1 = omega (arith, c.loop-self-test.true, c.most-n.type_inv) in
    ends-so so_far.turns step.reads_nothing room so_far.begun within _ c.step-outcome.result step.one step.input_fault c.counted-self.ensures.behind
    c.in-Err.ensures.gives

pub returns-clause-run : goal.returns-clause-run
returns-clause-run g c =
    let all : c.loop-self.self.steps ≡ c.args.task.now.n = omega (arith, c.loop-self-test.false, c.loop-self.invariant.within, c.most-n.ensures) in
    spent c.loop-self.invariant.turns c.loop-self.invariant.begun all

pub returns-in_default-clause-run : goal.returns-in_default-clause-run
returns-in_default-clause-run g c =
    not-begun _ _ c.args.task.now.n _ _ _ _ _ _ _ _ _ c.requires.fresh c.in_default.ensures.kept (refl, refl)

pub returns-in-Err-clause-leaves : goal.returns-in-Err-clause-leaves
returns-in-Err-clause-leaves g c =
    let so_far = c.loop-self.invariant in
    let step = c.step-outcome.ensures in
    let given = c.in-Err.ensures in
    record {
      begun = λ h. so_far.begun;
      kept = λ e. absurd (true≢false (sym so_far.begun ∙ e));
      slides = step.slides ∙ so_far.slides;
      notes = reports-of c.args.task.now.report c.in-Err.ended c.events.result.now c.step-outcome.new.stepper.events _ _
          c.events.ensures
          (given.reports (g.R.Sink.taken c.args.sinks.now.notes.now)
          (reports-front _ c.step-outcome.result c.args.task.now.report _ _ _ _ _ _ c.events-told.ensures c.events.ensures
          step.events so_far.reports));
      tuned = (step.tuned.0 ∙ so_far.tuned.0, step.tuned.1 ∙ so_far.tuned.1);
      yeses = yeses-more c.loop-self.self.stepper.events c.step-outcome.new.stepper.events _ _ _ so_far.yeses step.yeses;
      lent = (given.lent.0 ∙ so_far.lent.0, given.lent.1 ∙ so_far.lent.1);
    }

pub returns-clause-leaves : goal.returns-clause-leaves
returns-clause-leaves g c =
    let so_far = c.loop-self.invariant in
    record {
      begun = λ h. so_far.begun;
      kept = λ e. absurd (true≢false (sym so_far.begun ∙ e));
      slides = so_far.slides;
      notes = so_far.reports;
      tuned = so_far.tuned;
      yeses = so_far.yeses;
      lent = so_far.lent;
    }

pub returns-in_default-clause-leaves : goal.returns-in_default-clause-leaves
returns-in_default-clause-leaves g c =
    let none = ap (λ (s : Stepping). s.events) (c.in_default.ensures.kept ∙ c.requires.fresh.stepper) in
    let P : Stepping → Type 0 = λ s. IsAtStart s in
    record {
      begun = λ h. absurd (h refl);
      kept = λ e. (subst P (sym c.in_default.ensures.kept) c.requires.fresh.stepper, c.requires.fresh.steps);
      slides = ap (λ (s : Stepping). s.slides) c.in_default.ensures.kept;
      notes = reports-unbegun c.args.task.now.report _ _ none;
      tuned = (refl, refl);
      yeses = yeses-none _ _ none;
      lent = (refl, refl);
    }

pub returns-in-Err-clause-follows : goal.returns-in-Err-clause-follows
returns-in-Err-clause-follows g c = c.step-outcome.ensures.follows

pub returns-clause-follows : goal.returns-clause-follows
returns-clause-follows g c = c.loop-self.invariant.follows

pub returns-in-Err-clause-caused : goal.returns-in-Err-clause-caused
returns-in-Err-clause-caused g c =
    let so_far = c.loop-self.invariant in
    let step = c.step-outcome.ensures in
    let given = c.in-Err.ensures in
    record {
      input_fault = λ h. Rose-since _ _ _ so_far.source_never_falls (step.fault (input-failed _ _ _ c.step-outcome.result given.gives h));
      source_quiet = λ other. step.no_fault (λ h. other (failed-input _ _ _ c.step-outcome.result given.gives h)) ∙ so_far.source_quiet;
      output_fault = λ h. rose-since so_far.sink_never_falls so_far.notes_never_fall (given.failed (ap Err h));
      source_never_falls = omega (arith, so_far.source_never_falls, step.never_falls);
      sink_never_falls = omega (arith, so_far.sink_never_falls, given.sink_never_falls);
      notes_never_fall = omega (arith, so_far.notes_never_fall, given.notes_never_fall);
    }

pub returns-clause-caused : goal.returns-clause-caused
returns-clause-caused g c =
    let so_far = c.loop-self.invariant in
    record {
      input_fault = λ h. cc;
      source_quiet = λ other. so_far.source_quiet;
      output_fault = λ h. cc;
      source_never_falls = so_far.source_never_falls;
      sink_never_falls = so_far.sink_never_falls;
      notes_never_fall = so_far.notes_never_fall;
    }

pub returns-in_default-clause-caused : goal.returns-in_default-clause-caused
returns-in_default-clause-caused g c = record {
  input_fault = λ h. cc;
  source_quiet = λ other. refl;
  output_fault = λ h. cc;
  source_never_falls = omega arith;
  sink_never_falls = omega arith;
  notes_never_fall = omega arith;
}
