use Rattle.std.proofs.Common.{sym, ap, subst, ◌∙◌, arith}
use Rattle.std.proofs.lemmas.Bool.Decides.{nat_tests}
use Rattle.rg_input.specs.Numbers.{AsksFor, is_input_fault}
use Rattle.rg_input.proofs.Input.{OnInput-map, OnInput-some}
use Rattle.rg_plain.specs.Inner.Inputs.{StepOn, SettlesOn}
use Rattle.rg_values.specs.Kept.{kept_of}
use Rattle.rg_plain.specs.Outcomes.{settled_outcome}
use Rattle.rg_plain.proofs.Runs.Dispatch.{settled_on, settled-fault, settled-input, leaves_rows}
use Rattle.rg_plain.proofs.steps.whole_step.Goals as goal

pub returns-clause-step : goal.returns-clause-step
returns-clause-step g c =
    let t = c.args.book.now.program in
    let old = kept_of c.args.m.now in
    let new = kept_of c.row_step-outcome.new.m in
    OnInput-map _ _ _ _ (StepOn t old new c.row_step-outcome.result) (SettlesOn t old new c.settled.result) c.row_step-outcome.ensures.step
    (λ before after is. (settled_on t old new c.row_step-outcome.result c.settled.result c.is_empty.result c.requires.left c.requires.fit.items
    c.row_step-outcome.ensures.fit.items c.requires.ends c.row_step-outcome.ensures.quiet
    (λ e. grind (arith, nat_tests)) (λ e. grind (arith, nat_tests)) c.settled.ensures before after is).0)

pub returns-clause-ends : goal.returns-clause-ends
returns-clause-ends g c =
    let t = c.args.book.now.program in
    let old = kept_of c.args.m.now in
    let new = kept_of c.row_step-outcome.new.m in
    let some = OnInput-some _ _ _ _ (StepOn t old new c.row_step-outcome.result) c.row_step-outcome.ensures.follows c.row_step-outcome.ensures.step in
    (settled_on t old new c.row_step-outcome.result c.settled.result c.is_empty.result c.requires.left c.requires.fit.items
    c.row_step-outcome.ensures.fit.items c.requires.ends c.row_step-outcome.ensures.quiet
    (λ e. grind (arith, nat_tests)) (λ e. grind (arith, nat_tests)) c.settled.ensures some.0 some.1 some.2).1

pub returns-clause-left : goal.returns-clause-left
returns-clause-left g c =
    let t = c.args.book.now.program in
    let old = kept_of c.args.m.now in
    let new = kept_of c.row_step-outcome.new.m in
    let some = OnInput-some _ _ _ _ (SettlesOn t old new c.settled.result) c.row_step-outcome.ensures.follows (returns-clause-step g c) in
    leaves_rows t old new some.0 some.1 c.settled.result c.row_step-outcome.ensures.fit.items some.2

pub returns-clause-input_fault : goal.returns-clause-input_fault
returns-clause-input_fault g c fault =
    c.row_step-outcome.ensures.input_fault (settled-fault c.row_step-outcome.result c.is_empty.result (sym c.settled.ensures ∙ fault))

pub returns-clause-fault : goal.returns-clause-fault
returns-clause-fault g c fault =
    c.row_step-outcome.ensures.fault (settled-fault c.row_step-outcome.result c.is_empty.result (sym c.settled.ensures ∙ fault))

pub returns-clause-asks : goal.returns-clause-asks
returns-clause-asks g c =
    let asks = c.row_step-outcome.ensures.asks in
    let is = settled-input c.row_step-outcome.result c.is_empty.result ∙ sym (ap is_input_fault c.settled.ensures) in
    (asks.0, subst (λ b. AsksFor g.S.Source.replies b c.args.numbers.now asks.0 c.args.source.now c.row_step-outcome.new.source) is asks.1)

pub returns-clause-no_fault : goal.returns-clause-no_fault
returns-clause-no_fault g c other =
    c.row_step-outcome.ensures.no_fault (λ e. other (c.settled.ensures ∙ ap (λ r. settled_outcome r c.is_empty.result) e))
