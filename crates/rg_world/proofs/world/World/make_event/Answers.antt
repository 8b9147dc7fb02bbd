use Rattle.std.proofs.Common.{ap, arith}
use Rattle.std.specs.Prelude.{slice_get}
use Rattle.rg_tree.specs.Rows.RowTrees.{program_of}
use Rattle.rg_sched_atomic.specs.declared.phase.Phase.TheVariants as phase
use Rattle.rg_world.specs.Inner.Steps.{runs_so}
use Rattle.rg_world.proofs.Asking.{ended-idle, whatever}
use Rattle.rg_world.proofs.Behind.{ended-on, idle-on}
use Rattle.rg_world.proofs.First.{many-behind, there-is}
use Rattle.rg_world.proofs.Shown.{phase-waits, phase-runs, phase-ends, waiting-is}
use Rattle.rg_world.proofs.world.World.make_event.Goals as goal

pub state-requires : goal.state-requires
state-requires g c =
    let b = c.requires.behind in
    omega (arith, c.requires.number, many-behind (program_of c.args.accepted.now.program) c.args.code.now c.args.plan.now b.0 b.1 c.args.self.now b.2)

pub start-requires-clause-waits : goal.start-requires-clause-waits
start-requires-clause-waits g c = phase-waits (slice_get c.args.self.now.progress c.args.i) c.in-Waiting.ensures

pub step-requires-clause-runs : goal.step-requires-clause-runs
step-requires-clause-runs g c = phase-runs (slice_get c.args.self.now.progress c.args.i) c.in-Running.ensures

pub returns-in-Done-clause-shows : goal.returns-in-Done-clause-shows
returns-in-Done-clause-shows g c = λ images schedule h.
    let q = phase-ends (slice_get c.args.self.now.progress c.args.i) phase.Done c.in-Done.ensures tt in
    let b = there-is c.args.plan.now.behaviours c.args.i c.requires.number in
    ended-on (program_of c.args.accepted.now.program) c.args.code.now c.args.plan.now images schedule c.args.self.now h c.args.i b.0 b.1 q.0 q.1 q.2

pub returns-in-Trap-clause-shows : goal.returns-in-Trap-clause-shows
returns-in-Trap-clause-shows g c = λ images schedule h.
    let q = phase-ends (slice_get c.args.self.now.progress c.args.i) (phase.Trap c.in-Trap.kind c.in-Trap.line) c.in-Trap.ensures tt in
    let b = there-is c.args.plan.now.behaviours c.args.i c.requires.number in
    ended-on (program_of c.args.accepted.now.program) c.args.code.now c.args.plan.now images schedule c.args.self.now h c.args.i b.0 b.1 q.0 q.1 q.2

pub returns-in-Waiting-clause-asks : goal.returns-in-Waiting-clause-asks
returns-in-Waiting-clause-asks g c = λ images schedule h.
    let q = waiting-is (slice_get c.args.self.now.progress c.args.i)
    (phase-waits (slice_get c.args.self.now.progress c.args.i) c.in-Waiting.ensures) in
    let b = there-is c.args.plan.now.behaviours c.args.i c.requires.number in
    whatever c.start.result _
    (idle-on (program_of c.args.accepted.now.program) c.args.code.now c.args.plan.now images schedule c.args.self.now h c.args.i b.0 b.1 q.0 _ q.1
    (ap runs_so q.2))

pub returns-in-Done-clause-asks : goal.returns-in-Done-clause-asks
returns-in-Done-clause-asks g c = λ images schedule h.
    let q = phase-ends (slice_get c.args.self.now.progress c.args.i) phase.Done c.in-Done.ensures tt in
    let b = there-is c.args.plan.now.behaviours c.args.i c.requires.number in
    idle-on (program_of c.args.accepted.now.program) c.args.code.now c.args.plan.now images schedule c.args.self.now h c.args.i b.0 b.1 q.0 _ q.1
    (ended-idle q.0.standing q.2)

pub returns-in-Trap-clause-asks : goal.returns-in-Trap-clause-asks
returns-in-Trap-clause-asks g c = λ images schedule h.
    let q = phase-ends (slice_get c.args.self.now.progress c.args.i) (phase.Trap c.in-Trap.kind c.in-Trap.line) c.in-Trap.ensures tt in
    let b = there-is c.args.plan.now.behaviours c.args.i c.requires.number in
    idle-on (program_of c.args.accepted.now.program) c.args.code.now c.args.plan.now images schedule c.args.self.now h c.args.i b.0 b.1 q.0 _ q.1
    (ended-idle q.0.standing q.2)
