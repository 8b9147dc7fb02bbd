use Rattle.std.proofs.Common.{subst, sym, arith}
use Rattle.rg_machine.specs.Parts.{machine_in}
use Rattle.rg_step.specs.Inner.Held.{stepping}
use Rattle.rg_step.specs.States.{Chain}
use Rattle.rg_step.specs.Steps.{IsRunning, Leapt}
use Rattle.rg_step.specs.Stepping.{Stepping}
use Rattle.rg_step.proofs.Held.{rests-some, shows-none, shows-some}
use Rattle.rg_step.proofs.Walking.Run.{never-fresh}
use Rattle.rg_step.proofs.Shapes.KnownSteps.{leaps-counted, leapt}
use Rattle.rg_step.proofs.stepper.Stepper.leap.Goals as goal

pub returns-clause-leaps : goal.returns-clause-leaps
returns-clause-leaps c =
    let code = c.args.code.now in
    let new = machine_in c.leap-made.new.p in
    let P : Stepping → Type 0 = λ n. Leapt code c.leap-made.result (machine_in n.parts) new in
    subst P (shows-some c.self.inside.machine c.in-Some.p c.self.inside.kept c.args.self.now c.in-Some.is c.self.view_is)
    (leapt code c.leap-made.result c.in-Some.p c.leap-made.new.p c.leap-made.ensures.leaps)

pub returns-clause-chain : goal.returns-clause-chain
returns-clause-chain c pacers input =
    let code = c.args.code.now in
    let k = c.leap-made.result in
    let was = stepping c.in-Some.p c.self.inside.kept in
    let new : Stepping = record was { parts = c.leap-made.new.p; steps = c.more-self-inside.result } in
    let P : Stepping → Type 0 = λ n. IsRunning code (machine_in n.parts) in
    let Q : Stepping → Type 0 = λ n. Chain code k (record { stepper = n; pacers = pacers }) (record { stepper = new; pacers = pacers }) input input in
    let is = shows-some c.self.inside.machine c.in-Some.p c.self.inside.kept c.args.self.now c.in-Some.is c.self.view_is in
    subst Q is (leaps-counted code was c.in-Some.p pacers input (subst P (sym is) c.requires) (omega (arith, c.self.ranges)) k
    c.leap-made.new.p c.more-self-inside.result (omega (arith, c.leap-made.type_inv)) c.leap-made.ensures.leaps c.more-self-inside.ensures)

pub leap-made-requires-clause-runs : goal.leap-made-requires-clause-runs
leap-made-requires-clause-runs c =
    let P : Stepping → Type 0 = λ n. IsRunning c.args.code.now (machine_in n.parts) in
    subst P (sym (shows-some c.self.inside.machine c.in-Some.p c.self.inside.kept c.args.self.now c.in-Some.is c.self.view_is)) c.requires

pub leap-made-requires-clause-rests : goal.leap-made-requires-clause-rests
leap-made-requires-clause-rests c = rests-some c.self.inside.machine c.in-Some.p c.in-Some.is c.self.invariant.0

pub leap-made-requires-clause-blank : goal.leap-made-requires-clause-blank
leap-made-requires-clause-blank c = c.self.invariant.1

pub invariant_of-self : goal.invariant_of-self
invariant_of-self c = (c.leap-made.ensures.rests, c.leap-made.ensures.blank)

pub unreachable-requires : goal.unreachable-requires
unreachable-requires c =
    let P : Stepping → Type 0 = λ n. IsRunning c.args.code.now (machine_in n.parts) in
    never-fresh c.args.code.now
    (subst P (sym (shows-none c.self.inside.machine c.self.inside.kept c.args.self.now c.in_default.is c.self.view_is)) c.requires)
