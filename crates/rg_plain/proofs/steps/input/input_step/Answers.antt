use Rattle.std.proofs.Common.{◌≡◌, ◌∙◌, refl, sym, ap, subst, Ok, Err}
use Rattle.rg_base.specs.declared.outcome.Outcome.TheVariants as outcome
use Rattle.rg_input.specs.declared.refusal.NumberRefusal.TheVariants as no
use Rattle.rg_input.specs.Numbers.{nothing_came, AsksFor, is_input_fault}
use Rattle.rg_input.proofs.Input.{OnInput-map, asks-nothing}
use Rattle.rg_plain.specs.Inner.Inputs.{Gave, StepOn, refused_by, right_for}
use Rattle.rg_values.specs.Spots.{use_of}
use Rattle.rg_values.specs.Kept.{Kept, kept_of, plain_of, shown}
use Rattle.rg_plain.proofs.Statements.Input.{reads_nothing, cut-step, value-step, no-value, same-plain, refused-fault}
use Rattle.rg_plain.proofs.steps.input.input_step.Goals as goal

pub returns-in-Err-clause-step : goal.returns-in-Err-clause-step
returns-in-Err-clause-step g c =
    let t = c.args.book.now.program in
    let k = kept_of c.args.m.now in
    rw c.ended.ensures.is (reads_nothing t k k (outcome.Trap c.in-Err.kind c.args.to.at.line) _ _
    (cut-step t k c.args.to.at.number c.args.to.at.line c.args.to.left c.in-Err.kind (right_for c.args.wanted) c.requires.stands.at.rest
    c.in-Err.ensures c.requires.stands.at.items c.requires.stands.tree))

pub returns-in_default-clause-step : goal.returns-in_default-clause-step
returns-in_default-clause-step g c =
    let t = c.args.book.now.program in
    let k = kept_of c.args.m.now in
    let new = kept_of c.make_room.new.m in
    reads_nothing t k new outcome.Memory _ _ (λ input. same-plain t k new input input c.in_default.ensures.kept refl)

pub returns-in-Err-fetch-clause-step : goal.returns-in-Err-fetch-clause-step
returns-in-Err-fetch-clause-step g c =
    let t = c.args.book.now.program in
    let k = kept_of c.args.m.now in
    let new = kept_of c.make_room.new.m in
    let line = c.args.to.at.line in
    rw c.refused.ensures (OnInput-map _ _ _ _ (Gave c.args.wanted (Err c.in-Err-fetch.refusal))
    (StepOn t k new (refused_by c.in-Err-fetch.refusal line)) c.in-Err-fetch.ensures.gave
    (no-value t k new c.args.to.at.number line c.args.to.left c.in-Ok.aim c.requires.stands.at.rest c.args.wanted c.in-Err-fetch.refusal
    c.in-Ok.ensures c.requires.stands.at.items c.requires.stands.tree c.in-Ok-make_room.ensures.kept))

pub returns-clause-step : goal.returns-clause-step
returns-clause-step g c =
    let t = c.args.book.now.program in
    let k = kept_of c.args.m.now in
    let new = kept_of c.put.new.m in
    let kept = c.in-Ok-make_room.ensures.kept in
    let items = c.advance.new.items.items in
    let a = c.in-Ok.aim in
    let v = c.in-Ok-fetch.value in
    OnInput-map _ _ _ _ (Gave c.args.wanted (Ok v)) (StepOn t k new outcome.Running) c.in-Ok-fetch.ensures.gave
    (value-step t k new c.args.to.at.number c.args.to.at.line c.args.to.left a items c.args.wanted v c.in-Ok.ensures
    (sym (ap (λ (q : Kept). shown t q.items) kept) ∙ c.advance.ensures.rest) c.requires.stands.tree
    (λ input. c.put.ensures.put input ∙ ap (λ (q : Kept). use_of t a (plain_of t (record q { items = items }) input) v) kept))

pub returns-in-Err-clause-asks : goal.returns-in-Err-clause-asks
returns-in-Err-clause-asks g c =
    (c.args.numbers.now, asks-nothing g.S.Source.replies c.args.numbers.now c.args.source.now c.ended.result c.ended.ensures.asks_nothing)

pub returns-in_default-clause-asks : goal.returns-in_default-clause-asks
returns-in_default-clause-asks g c = (c.args.numbers.now, nothing_came)

pub returns-in-Err-fetch-clause-asks : goal.returns-in-Err-fetch-clause-asks
returns-in-Err-fetch-clause-asks g c =
    let asks = c.in-Err-fetch.ensures.asks in
    let why = c.in-Err-fetch.refusal in
    let is = refused-fault why c.args.to.at.line ∙ sym (ap is_input_fault c.refused.ensures) in
    (asks.0, subst (λ b. AsksFor g.S.Source.replies b c.args.numbers.now asks.0 c.args.source.now c.fetch.new.source) is asks.1)

pub returns-in-Err-fetch-clause-no_fault : goal.returns-in-Err-fetch-clause-no_fault
returns-in-Err-fetch-clause-no_fault g c other =
    c.in-Err-fetch.ensures.no_fault (λ e.
    let same : c.in-Err-fetch.refusal ≡ no.InputFault = cc (e) in
    other (c.refused.ensures ∙ ap (λ r. refused_by r c.args.to.at.line) same))

pub returns-clause-asks : goal.returns-clause-asks
returns-clause-asks g c = c.in-Ok-fetch.ensures.asks
