-- The turns and the ends of a run, by the lemma of a step.
use Rattle.std.proofs.Common.{◌≡◌, ◌<◌, ◌+◌, Option, Some, None, refl, subst, arith, ◌∙◌}
use Rattle.rg_base.specs.declared.outcome.Ended.{Ended}
use Rattle.rg_base.specs.declared.outcome.Ended.TheVariants as ended
use Rattle.rg_io.proofs.Content.{Appends-none}
use Rattle.rg_input.proofs.Input.{OnInput-still, OnInput-map}
use Rattle.rg_plain.specs.Inner.Counts.{CountIs}
use Rattle.rg_plain.specs.Machine.{state_of}
use Rattle.rg_plain.specs.Runs.{IsState}
use Rattle.rg_plain.proofs.Runs.Dispatch.{left-shown}
use Rattle.rg_plain.proofs.Runs.Run.{opening, spent}
use Rattle.rg_plain.proofs.Runs.Count.{ToldOn, begun_next, fault_ends, goes_faultless, left_on, told_on}
use Rattle.rg_plain.proofs.Runs.Machine.{RanOn, RunOn, UnreadOn, QuietOn}
use Rattle.rg_plain.proofs.machine.PlainMachine.run_counting.Goals as goal

pub loop-steps-init : goal.loop-steps-init
loop-steps-init g c =
    let t = c.args.program.now in
    let m = c.args.self.now in
    let content = g.O.Sink.taken c.args.out.now in
    let some = left-shown t m.kept.items c.requires.left c.requires.fits.kept.items in
    record {
      left = c.requires.left;
      fits = c.requires.fits;
      follows = c.requires.follows;
      within = omega arith;
      source_never_falls = omega arith;
      source_quiet = refl;
      sink_never_falls = omega arith;
      so_far = OnInput-still _ _ _ _ (RanOn t m 0 m content content) refl refl (λ bytes.
          opening t (state_of t m bytes) content some (Appends-none content));
      unread = OnInput-still _ _ _ _ (UnreadOn t m 0 m content content
          ((c.args.input.now ≡ c.args.input.now) × (c.args.source.now ≡ c.args.source.now))) refl refl (λ bytes.
          (opening t (state_of t m bytes) content some (Appends-none content), λ none. (refl, refl)));
    }

pub loop-steps-preserved : goal.loop-steps-preserved
loop-steps-preserved g c =
    let Before : Type 0 = (c.loop-steps.input ≡ c.args.input.now) × (c.loop-steps.source ≡ c.args.source.now) in
    let After : Type 0 = (c.step.new.input ≡ c.args.input.now) × (c.step.new.source ≡ c.args.source.now) in
    let t = c.args.program.now in
    let start = c.args.self.now in
    let k = c.loop-steps.steps in
    let after = c.count.new.steps in
    let m = c.loop-steps.self in
    let new = c.step.new.self in
    let o = c.step.result in
    let old = g.O.Sink.taken c.args.out.now in
    let between = g.O.Sink.taken c.loop-steps.out in
    let out = g.O.Sink.taken c.count.new.out in
    let within : k < c.args.n = omega (arith, c.loop-steps-test.true) in
    let is : CountIs o k after between out None =
    subst (λ (r : Option Ended). CountIs o k after between out r) c.in_default.is c.count.ensures.is in
    let one : after ≡ k + 1 = begun_next o k after between out None is in
    let turn = told_on t start m new c.args.n k after old between out o None _ _ _ _ _ _ Before After within is c.step.ensures.input_fault
    (λ no b. let n = c.step.ensures.reads_nothing no in (n.0 ∙ b.0, n.1 ∙ b.1)) c.loop-steps.invariant.unread c.step.ensures.step in
    record {
      left = left_on new.kept.items o k after between out is c.step.ensures.left;
      fits = c.step.ensures.fits;
      follows = c.step.ensures.follows;
      within = omega (arith, one, within);
      source_never_falls = omega (arith, c.loop-steps.invariant.source_never_falls, c.step.ensures.never_falls);
      source_quiet = c.step.ensures.no_fault (goes_faultless o k after between out is) ∙ c.loop-steps.invariant.source_quiet;
      sink_never_falls = omega (arith, c.loop-steps.invariant.sink_never_falls, c.count.ensures.never_falls);
      so_far =
          OnInput-map _ _ _ _ (ToldOn t start c.args.n after new old out None After) (RanOn t start after new old out) turn (λ x z both. both.0);
      unread = turn;
    }

pub returns-in-Some-clause-reads_nothing : goal.returns-in-Some-clause-reads_nothing
returns-in-Some-clause-reads_nothing g c =
    let Before : Type 0 = (c.loop-steps.input ≡ c.args.input.now) × (c.loop-steps.source ≡ c.args.source.now) in
    let After : Type 0 = (c.step.new.input ≡ c.args.input.now) × (c.step.new.source ≡ c.args.source.now) in
    let k = c.loop-steps.steps in
    let after = c.count.new.steps in
    let o = c.step.result in
    let between = g.O.Sink.taken c.loop-steps.out in
    let out = g.O.Sink.taken c.count.new.out in
    let within : k < c.args.n = omega (arith, c.loop-steps-test.true) in
    let is : CountIs o k after between out (Some c.in-Some.ended) =
    subst (λ (r : Option Ended). CountIs o k after between out r) c.in-Some.is c.count.ensures.is in
    told_on c.args.program.now c.args.self.now c.loop-steps.self c.step.new.self c.args.n k after (g.O.Sink.taken c.args.out.now) between out o
    (Some c.in-Some.ended) _ _ _ _ _ _ Before After within is c.step.ensures.input_fault
    (λ no b. let n = c.step.ensures.reads_nothing no in (n.0 ∙ b.0, n.1 ∙ b.1)) c.loop-steps.invariant.unread c.step.ensures.step

pub returns-in-Some-clause-source_quiet : goal.returns-in-Some-clause-source_quiet
returns-in-Some-clause-source_quiet g c other =
    let k = c.loop-steps.steps in
    let after = c.count.new.steps in
    let o = c.step.result in
    let between = g.O.Sink.taken c.loop-steps.out in
    let out = g.O.Sink.taken c.count.new.out in
    let is : CountIs o k after between out (Some c.in-Some.ended) =
    subst (λ (r : Option Ended). CountIs o k after between out r) c.in-Some.is c.count.ensures.is in
    c.step.ensures.no_fault (λ e.
    let same : c.in-Some.ended ≡ ended.InputFault = cc (fault_ends o k after between out (Some c.in-Some.ended) is e) in other same)
    ∙ c.loop-steps.invariant.source_quiet

pub returns-clause-source_quiet : goal.returns-clause-source_quiet
returns-clause-source_quiet g c other = c.loop-steps.invariant.source_quiet

pub returns-in-Some-clause-run : goal.returns-in-Some-clause-run
returns-in-Some-clause-run g c =
    let After : Type 0 = (c.step.new.input ≡ c.args.input.now) × (c.step.new.source ≡ c.args.source.now) in
    let t = c.args.program.now in
    let start = c.args.self.now in
    let after = c.count.new.steps in
    let new = c.step.new.self in
    let old = g.O.Sink.taken c.args.out.now in
    let out = g.O.Sink.taken c.count.new.out in
    OnInput-map _ _ _ _ (QuietOn t start c.args.n after new old out c.in-Some.ended After)
    (RunOn t start c.args.n after new old out c.in-Some.ended) (returns-in-Some-clause-reads_nothing g c) (λ x z both. both.0)

pub returns-clause-reads_nothing : goal.returns-clause-reads_nothing
returns-clause-reads_nothing g c =
    let t = c.args.program.now in
    let start = c.args.self.now in
    let k = c.loop-steps.steps in
    let m = c.loop-steps.self in
    let old = g.O.Sink.taken c.args.out.now in
    let out = g.O.Sink.taken c.loop-steps.out in
    let Before : Type 0 = (c.loop-steps.input ≡ c.args.input.now) × (c.loop-steps.source ≡ c.args.source.now) in
    let all : k ≡ c.args.n = omega (arith, c.loop-steps-test.false, c.loop-steps.invariant.within) in
    OnInput-map _ _ _ _ (UnreadOn t start k m old out Before) (QuietOn t start c.args.n k m old out ended.Spent Before)
    c.loop-steps.invariant.unread
    (λ before after ran. (spent t (state_of t start before) c.args.n k (state_of t m after) (IsState t m after) old out all ran.0 refl, ran.1))

pub returns-clause-run : goal.returns-clause-run
returns-clause-run g c =
    let m = c.loop-steps.self in
    let old = g.O.Sink.taken c.args.out.now in
    let out = g.O.Sink.taken c.loop-steps.out in
    let Before : Type 0 = (c.loop-steps.input ≡ c.args.input.now) × (c.loop-steps.source ≡ c.args.source.now) in
    OnInput-map _ _ _ _ (QuietOn c.args.program.now c.args.self.now c.args.n c.loop-steps.steps m old out ended.Spent Before)
    (RunOn c.args.program.now c.args.self.now c.args.n c.loop-steps.steps m old out ended.Spent) (returns-clause-reads_nothing g c)
    (λ x z both. both.0)
