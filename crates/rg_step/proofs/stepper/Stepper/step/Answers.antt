-- Each end of a step, by the lemma that makes its record.
use Rattle.std.proofs.Common.{◌≡◌, ◌∙◌, true, false, subst, sym, refl, ap}
use Rattle.rg_input.proofs.Input.{OnInput-map, OnInput-still, asks-nothing}
use Rattle.rg_code.specs.Dues.{due_at}
use Rattle.rg_machine.specs.Parts.{machine_in}
use Rattle.rg_step.specs.Inner.Serving.{is_asked}
use Rattle.rg_step.specs.States.{OneStep}
use Rattle.rg_step.specs.Steps.{IsRunning, StepsOn, is_made}
use Rattle.rg_step.specs.Stepping.{Stepping}
use Rattle.rg_step.proofs.Held.{rests-some, shows-none, shows-some}
use Rattle.rg_step.proofs.One.{one-made, one-refused}
use Rattle.rg_step.proofs.Walking.Run.{never-fresh}
use Rattle.rg_step.proofs.Callers.Serve.{once-behind}
use Rattle.rg_step.proofs.Callers.Tuned.{serves-tunes}
use Rattle.rg_step.proofs.stepper.Stepper.step.Goals as goal

pub unreachable-requires : goal.unreachable-requires
unreachable-requires g c =
    let P : Stepping → Type 0 = λ n. IsRunning c.args.code.now (machine_in n.parts) in
    never-fresh c.args.code.now
    (subst P (sym (shows-none c.self.inside.machine c.self.inside.kept c.args.self.now c.in_default.is c.self.view_is)) c.requires.runs)

pub outcome-outcome-requires-clause-runs : goal.outcome-outcome-requires-clause-runs
outcome-outcome-requires-clause-runs g c =
    let P : Stepping → Type 0 = λ n. IsRunning c.args.code.now (machine_in n.parts) in
    subst P (sym (shows-some c.self.inside.machine c.in-Some.p c.self.inside.kept c.args.self.now c.in-Some.is c.self.view_is)) c.requires.runs

pub outcome-outcome-requires-clause-rests : goal.outcome-outcome-requires-clause-rests
outcome-outcome-requires-clause-rests g c = rests-some c.self.inside.machine c.in-Some.p c.in-Some.is c.self.invariant.0

pub outcome-outcome-requires-clause-due : goal.outcome-outcome-requires-clause-due
outcome-outcome-requires-clause-due g c = c.due_at-due.ensures ∙ ap (due_at c.args.code.now.ops) c.at-at.ensures

-- one that makes an object

pub returns-in-New-clause-step : goal.returns-in-New-clause-step
returns-in-New-clause-step g c =
    let code = c.args.code.now in
    rw (← shows-some c.self.inside.machine c.in-Some.p c.self.inside.kept c.args.self.now c.in-Some.is c.self.view_is)
    (OnInput-still _ _ _ _ (OneStep code _ _ c.make_paced.result) refl refl c.make_paced.ensures.step)

-- a step that was refused

pub returns-then-not-is_made-clause-step : goal.returns-then-not-is_made-clause-step
returns-then-not-is_made-clause-step g c =
    let code = c.args.code.now in
    let was = shows-some c.self.inside.machine c.in-Some.p c.self.inside.kept c.args.self.now c.in-Some.is c.self.view_is in
    let P : Stepping → Type 0 = λ n. IsRunning code (machine_in n.parts) in
    let result = c.outcome-outcome.result in
    let did = c.outcome-outcome.ensures.did in
    let no : is_made result ≡ false = sym c.is_made.ensures ∙ c.if-not-is_made.true in
    rw (← was)
    (OnInput-map _ _ _ _ (StepsOn code (machine_in c.in-Some.p) (machine_in c.outcome-outcome.new.p) result) (OneStep code _ _ result)
    c.outcome-outcome.ensures.step
    (one-refused code _ _ (subst P (sym was) c.requires.runs) result did.high did.frees did.stays_gone
    (record {
      stands = c.is_sound-2.ensures.stands;
      serials = c.is_sound-2.ensures.serials;
      forest = c.is_sound-2.ensures.forest;
      windows = c.is_sound-2.ensures.windows;
    }) refl
    (λ asked. did.still (ap is_asked (c.due_at-due.ensures ∙ ap (due_at code.ops) c.at-at.ensures ∙ asked))) no
    (record {
      shown = did.refused no;
      events_are = c.outcome-outcome.ensures.events;
      unasked = record { since = refl; pacers = refl };
    }) refl))

pub returns-then-not-is_made-clause-reads_nothing : goal.returns-then-not-is_made-clause-reads_nothing
returns-then-not-is_made-clause-reads_nothing g c =
    rw (← shows-some c.self.inside.machine c.in-Some.p c.self.inside.kept c.args.self.now c.in-Some.is c.self.view_is)
    c.outcome-outcome.ensures.reads_nothing

pub returns-then-not-is_made-clause-input_fault : goal.returns-then-not-is_made-clause-input_fault
returns-then-not-is_made-clause-input_fault g c =
    rw (← shows-some c.self.inside.machine c.in-Some.p c.self.inside.kept c.args.self.now c.in-Some.is c.self.view_is)
    c.outcome-outcome.ensures.input_fault

-- one that was made

pub follow-requires-clause-once : goal.follow-requires-clause-once
follow-requires-clause-once g c =
    let code = c.args.code.now in
    let was = shows-some c.self.inside.machine c.in-Some.p c.self.inside.kept c.args.self.now c.in-Some.is c.self.view_is in
    let P : Stepping → Type 0 = λ n. IsRunning code (machine_in n.parts) in
    let made : is_made c.outcome-outcome.result ≡ true = sym c.is_made.ensures ∙ c.if-not-is_made.false in
    once-behind code (machine_in c.in-Some.p) (machine_in c.outcome-outcome.new.p) c.outcome-outcome.result _ _ _ _
    (subst P (sym was) c.requires.runs) made c.outcome-outcome.ensures.follows c.outcome-outcome.ensures.step

pub follow-requires-clause-rests : goal.follow-requires-clause-rests
follow-requires-clause-rests g c = c.outcome-outcome.ensures.did.rests

pub follow-requires-clause-room : goal.follow-requires-clause-room
follow-requires-clause-room g c = c.outcome-outcome.ensures.room (sym c.is_made.ensures ∙ c.if-not-is_made.false)

pub returns-clause-step : goal.returns-clause-step
returns-clause-step g c =
    let code = c.args.code.now in
    let was = shows-some c.self.inside.machine c.in-Some.p c.self.inside.kept c.args.self.now c.in-Some.is c.self.view_is in
    let P : Stepping → Type 0 = λ n. IsRunning code (machine_in n.parts) in
    let mid = c.outcome-outcome.new.p in
    let result = c.outcome-outcome.result in
    let made : is_made result ≡ true = sym c.is_made.ensures ∙ c.if-not-is_made.false in
    rw (← was)
    (OnInput-map _ _ _ _ (StepsOn code (machine_in c.in-Some.p) (machine_in mid) result) (OneStep code _ _ result) c.outcome-outcome.ensures.step
    (one-made code _ mid _ (subst P (sym was) c.requires.runs)
    (record {
      stands = c.is_sound-2.ensures.stands;
      serials = c.is_sound-2.ensures.serials;
      forest = c.is_sound-2.ensures.forest;
      windows = c.is_sound-2.ensures.windows;
    })
    c.due_at-due.result (sym (c.due_at-due.ensures ∙ ap (due_at code.ops) c.at-at.ensures)) c.outcome-outcome.new.events.items
    c.outcome-outcome.ensures.events (c.follow.ensures.serves c.in-Some.p)
    (record {
      stands = c.is_sound-3.ensures.stands;
      serials = c.is_sound-3.ensures.serials;
      forest = c.is_sound-3.ensures.forest;
      windows = c.is_sound-3.ensures.windows;
    })
    c.follow.ensures.high result c.outcome-outcome.ensures.did c.follow.ensures.slides made c.follow.ensures.steps))

pub returns-clause-tuned : goal.returns-clause-tuned
returns-clause-tuned g c = serves-tunes c.due_at-due.result _ _ _ _ _ (c.follow.ensures.serves c.in-Some.p)

pub returns-clause-reads_nothing : goal.returns-clause-reads_nothing
returns-clause-reads_nothing g c =
    rw (← shows-some c.self.inside.machine c.in-Some.p c.self.inside.kept c.args.self.now c.in-Some.is c.self.view_is)
    c.outcome-outcome.ensures.reads_nothing

pub returns-clause-input_fault : goal.returns-clause-input_fault
returns-clause-input_fault g c =
    rw (← shows-some c.self.inside.machine c.in-Some.p c.self.inside.kept c.args.self.now c.in-Some.is c.self.view_is)
    c.outcome-outcome.ensures.input_fault

-- what it asks for

pub returns-in-New-clause-asks : goal.returns-in-New-clause-asks
returns-in-New-clause-asks g c =
    (c.args.input.now, asks-nothing g.S.Source.replies c.args.input.now c.args.source.now c.make_paced.result c.make_paced.ensures.no_fault)

pub returns-then-not-is_made-clause-asks : goal.returns-then-not-is_made-clause-asks
returns-then-not-is_made-clause-asks g c = c.outcome-outcome.ensures.asks

pub returns-clause-asks : goal.returns-clause-asks
returns-clause-asks g c = c.outcome-outcome.ensures.asks
