use Rattle.std.proofs.Common.{◌≡◌, ◌+◌, Some, IfErr, slice_get, true≢false, refl, sym, ap, subst, ◌∙◌, arith}
use Rattle.std.proofs.lemmas.Option.{slice_get_within}
use Rattle.rg_base.specs.declared.event.Cause.TheVariants.{Asked}
use Rattle.rg_base.specs.declared.outcome.Outcome.TheVariants as outcome
use Rattle.rg_input.proofs.Input.{OnInput-map, OnInput-some, OnInput-still}
use Rattle.rg_input.specs.Numbers.{AsksFor, OnInput, is_input_fault, nothing_came}
use Rattle.rg_code.specs.Dues.{due_at}
use Rattle.rg_code.specs.Shapes.{IsMark}
use Rattle.rg_machine.specs.Parts.{Parts, machine_in}
use Rattle.rg_machine.specs.Cores.{core_of}
use Rattle.rg_stack.specs.Machine.{Machine}
use Rattle.rg_held.specs.Freed.{FreesOnly as StoreFrees}
use Rattle.rg_step.specs.Inner.High.{MadeAtMost}
use Rattle.rg_step.proofs.Walking.High.{answer-raises}
use Rattle.rg_step.specs.Inner.Refusals.{StopLeaves, asks_at}
use Rattle.rg_step.specs.Inner.Serving.{answer}
use Rattle.rg_step.specs.Inner.Walks.{StepIs}
use Rattle.rg_step.specs.Steps.{IsResting, StepsOn, is_made}
use Rattle.rg_step.specs.Frees.{StaysGone}
use Rattle.rg_step.proofs.Frees.{did-frees, did-stays, table-frees}
use Rattle.rg_step.proofs.Walking.OneAsk.{answer-input}
use Rattle.rg_step.proofs.Walking.Outcomes.{answer-fault, answer-leaves, answer-settles, instructed-nothing}
use Rattle.rg_step.proofs.Shapes.Pass.{asked-step, is-asked, pass-frees, pass-high, pass-rests, pass-stays, pass-steps}
use Rattle.rg_step.proofs.Walking.Run.{runs-ask, runs-given, runs-orderly, unasked-there}
use Rattle.rg_step.proofs.Walking.Steps.{mark-there}
use Rattle.rg_step.proofs.Callers.Serve.{steps-nowhere}
use Rattle.rg_step.proofs.outcome.outcome.Goals as goal

-- where there is no room for an event

pub returns-in_default-clause-step : goal.returns-in_default-clause-step
returns-in_default-clause-step g c =
    let m = machine_in c.args.p.now in
    OnInput-still _ _ _ _ (StepsOn c.args.code.now m m outcome.Memory) refl refl (steps-nowhere c.args.code.now m)

pub returns-in_default-clause-did : goal.returns-in_default-clause-did
returns-in_default-clause-did g c = instructed-nothing c.args.due c.args.p.now c.requires.rests

pub returns-in_default-clause-room : goal.returns-in_default-clause-room
returns-in_default-clause-room g c made = absurd (true≢false (sym made))

-- the step of a `collect`

pub behind_collect-requires : goal.behind_collect-requires
behind_collect-requires g c =
    let code = c.args.code.now in
    let due : due_at code.ops c.args.p.now.at ≡ Some Asked =
    sym c.requires.due ∙ is-asked c.args.due (sym c.is_asked.ensures ∙ c.if-is_asked.true) in
    let runs = c.requires.runs in
    let step = asked-step runs.0 code (machine_in c.args.p.now) runs.1 runs.2 due in
    let within = slice_get_within code.ops (c.args.p.now.at + 2) _ step.2.1 in
    omega (arith, within, c.at.ensures, c.len.ensures)

pub returns-then-is_asked-clause-step : goal.returns-then-is_asked-clause-step
returns-then-is_asked-clause-step g c =
    let code = c.args.code.now in
    let old = c.args.p.now in
    let new = c.go_to.new.self in
    let due : due_at code.ops old.at ≡ Some Asked =
    sym c.requires.due ∙ is-asked c.args.due (sym c.is_asked.ensures ∙ c.if-is_asked.true) in
    let is : new ≡ record old { at = old.at + 2 } =
    c.go_to.ensures ∙ ap (λ n. record old { at = n }) (c.behind_collect.ensures ∙ ap (λ n. n + 2) c.at.ensures) in
    OnInput-still _ _ _ _ (StepsOn code (machine_in old) (machine_in new) outcome.Running) refl refl (pass-steps code old new is c.requires.runs due)

pub returns-then-is_asked-clause-did : goal.returns-then-is_asked-clause-did
returns-then-is_asked-clause-did g c =
    let code = c.args.code.now in
    let old = c.args.p.now in
    let new = c.go_to.new.self in
    let is : new ≡ record old { at = old.at + 2 } =
    c.go_to.ensures ∙ ap (λ n. record old { at = n }) (c.behind_collect.ensures ∙ ap (λ n. n + 2) c.at.ensures) in
    record {
      refused = λ none. absurd (true≢false none);
      high = pass-high code old new is;
      frees = pass-frees code old new is;
      stays_gone = pass-stays code old new is;
      still = λ asked. (ap (λ (p : Parts). p.heap) is, ap (λ (p : Parts). p.frames) is);
      rests = pass-rests code old new is c.requires.rests;
    }

-- any other

pub step-did-requires-clause-given : goal.step-did-requires-clause-given
step-did-requires-clause-given g c = runs-given c.args.code.now (core_of c.args.p.now) c.requires.runs

pub answer-requires : goal.answer-requires
answer-requires g c =
    subst (IsMark c.args.code.now.ops) (sym c.at-at.ensures)
    (mark-there c.args.code.now (core_of c.args.p.now) (runs-given c.args.code.now (core_of c.args.p.now) c.requires.runs))

pub returns-clause-step : goal.returns-clause-step
returns-clause-step g c =
    let code = c.args.code.now in
    let old = core_of c.args.p.now in
    let new = core_of c.step-did.new.p in
    let d = c.step-did.result in
    let printed = c.printed-printed.result in
    let mark = mark-there code old (runs-given code old c.requires.runs) in
    let told = c.answer.ensures mark.0 (ap (slice_get code.ops) c.at-at.ensures ∙ mark.1) in
    let same : machine_in c.start.new.self ≡ new.machine = ap machine_in c.start.ensures in
    let On : Machine → Type 0 = λ m. OnInput c.args.input.now c.step-did.new.input (g.S.Source.left c.args.source.now)
    (g.S.Source.left c.step-did.new.source)
    (StepsOn code old.machine m c.answer.result) in
    subst On (sym same) (rw told (OnInput-map _ _ _ _ (StepIs code old new d) (StepsOn code old.machine new.machine (answer d mark.0 printed))
    c.step-did.ensures.step
    (λ before after is. answer-settles code old new d mark.0 printed before after mark.1 (sym c.printed-printed.ensures) c.step-did.ensures.leaves is)))

pub returns-clause-reads_nothing : goal.returns-clause-reads_nothing
returns-clause-reads_nothing g c t s r e =
    let m = machine_in c.args.p.now in
    c.step-did.ensures.unasked (runs-orderly t c.args.code.now m s r) (unasked-there c.args.code.now m t s r e)

pub returns-clause-input_fault : goal.returns-clause-input_fault
returns-clause-input_fault g c e t s r =
    let code = c.args.code.now in
    let m = machine_in c.args.p.now in
    let mark = mark-there code (core_of c.args.p.now) (runs-given code (core_of c.args.p.now) c.requires.runs) in
    let told = c.answer.ensures mark.0 (ap (slice_get code.ops) c.at-at.ensures ∙ mark.1) in
    let fault = answer-fault c.step-did.result mark.0 c.printed-printed.result (sym told ∙ e) in
    let left = subst (λ d. IfErr d (StopLeaves m (asks_at code.ops m) (machine_in c.step-did.new.p))) fault
    (c.step-did.ensures.leaves (runs-orderly t code m s r)) in
    sym (runs-ask t code m s r) ∙ left.0

pub returns-clause-fault : goal.returns-clause-fault
returns-clause-fault g c e =
    let code = c.args.code.now in
    let mark = mark-there code (core_of c.args.p.now) (runs-given code (core_of c.args.p.now) c.requires.runs) in
    let told = c.answer.ensures mark.0 (ap (slice_get code.ops) c.at-at.ensures ∙ mark.1) in
    c.step-did.ensures.fault (answer-fault c.step-did.result mark.0 c.printed-printed.result (sym told ∙ e))

pub returns-clause-no_fault : goal.returns-clause-no_fault
returns-clause-no_fault g c other =
    let code = c.args.code.now in
    let mark = mark-there code (core_of c.args.p.now) (runs-given code (core_of c.args.p.now) c.requires.runs) in
    let told = c.answer.ensures mark.0 (ap (slice_get code.ops) c.at-at.ensures ∙ mark.1) in
    c.step-did.ensures.no_fault (λ e. other (told ∙ ap (λ d. answer d mark.0 c.printed-printed.result) e))

pub returns-clause-did : goal.returns-clause-did
returns-clause-did g c =
    let code = c.args.code.now in
    let old = c.args.p.now in
    let mid = c.step-did.new.p in
    let new = c.start.new.self in
    let d = c.step-did.result in
    let m = machine_in old in
    let runs = c.requires.runs in
    let order = runs-orderly runs.0 code m runs.1 runs.2 in
    let mark = mark-there code (core_of old) (runs-given code (core_of old) runs) in
    let told = c.answer.ensures mark.0 (ap (slice_get code.ops) c.at-at.ensures ∙ mark.1) in
    let s = OnInput-some _ _ _ _ (StepIs code (core_of old) (core_of mid) d) c.step-did.ensures.follows c.step-did.ensures.step in
    let there : MadeAtMost old.heap new.heap d =
    subst (λ (p : Parts). MadeAtMost old.heap p.heap d) (sym c.start.ensures) (c.step-did.ensures.high order) in
    record {
      refused = λ none. ap machine_in c.start.ensures
          ∙ answer-leaves (asks_at code.ops m) m (machine_in mid) d mark.0 c.printed-printed.result (ap is_made (sym told) ∙ none)
          (c.step-did.ensures.leaves order);
      high = rw told (answer-raises old new d mark.0 c.printed-printed.result there);
      frees = table-frees old new
          (record {
            stands = c.is_sound.ensures.stands;
            serials = c.is_sound.ensures.serials;
            forest = c.is_sound.ensures.forest;
            windows = c.is_sound.ensures.windows;
          })
          (record {
            stands = c.is_sound-2.ensures.stands;
            serials = c.is_sound-2.ensures.serials;
            forest = c.is_sound-2.ensures.forest;
            windows = c.is_sound-2.ensures.windows;
          })
          (subst (λ (p : Parts). StoreFrees m (machine_in p)) (sym c.start.ensures)
          (did-frees code (core_of old) (core_of mid) d s.0 s.1 runs c.step-did.ensures.leaves s.2 order));
      stays_gone = subst (λ (p : Parts). StaysGone old p) (sym c.start.ensures)
          (did-stays code (core_of old) (core_of mid) d s.0 s.1 c.step-did.ensures.leaves s.2 order);
      still = λ asked. absurd (true≢false (sym asked ∙ sym c.is_asked.ensures ∙ c.if-is_asked.false));
      rests = subst IsResting (sym c.start.ensures) (record { words = refl; printed = refl });
    }

-- what it asks for

pub returns-in_default-clause-asks : goal.returns-in_default-clause-asks
returns-in_default-clause-asks g c = (c.args.input.now, nothing_came)

pub returns-then-is_asked-clause-asks : goal.returns-then-is_asked-clause-asks
returns-then-is_asked-clause-asks g c = (c.args.input.now, nothing_came)

pub returns-clause-asks : goal.returns-clause-asks
returns-clause-asks g c =
    let code = c.args.code.now in
    let m = machine_in c.args.p.now in
    let runs = c.requires.runs in
    let mark = mark-there code (core_of c.args.p.now) (runs-given code (core_of c.args.p.now) runs) in
    let told = c.answer.ensures mark.0 (ap (slice_get code.ops) c.at-at.ensures ∙ mark.1) in
    let asks = c.step-did.ensures.asks (runs-orderly runs.0 code m runs.1 runs.2) in
    let is = answer-input c.step-did.result mark.0 c.printed-printed.result ∙ sym (ap is_input_fault told) in
    (asks.0, subst (λ f. AsksFor g.S.Source.replies f c.args.input.now asks.0 c.args.source.now c.step-did.new.source) is asks.1)
