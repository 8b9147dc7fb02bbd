use Rattle.std.proofs.Common.{refl, sym, ap, ◌∙◌, map}
use Rattle.rg_tree.specs.Rows.RowTrees.{program_of}
use Rattle.rg_rules.specs.Types.{fields_of}
use Rattle.rg_sched_atomic.specs.Contents.{put, left_by}
use Rattle.rg_sched_atomic.specs.Events.{one_more}
use Rattle.rg_slots.specs.Slots.{content_in}
use Rattle.rg_world.proofs.Events.{put-none}
use Rattle.rg_world.proofs.Shown.{runs-of}
use Rattle.rg_world.proofs.advance.step_on.Goals as goal

pub step-outcome-requires : goal.step-outcome-requires
step-outcome-requires g c =
    let t = program_of c.args.book.now.program in
    let r = c.requires.runs in
    (t, r.0, runs-of t c.args.code.now r.0 c.args.standing.now c.in-Running.stepper r.1 c.in-Running.is)

pub contents_back-requires-clause-first : goal.contents_back-requires-clause-first
contents_back-requires-clause-first g c =
    let t = program_of c.args.book.now.program in
    let r = c.requires.runs in
    (c.in-Done.ensures.tells t r.0 c.args.class (runs-of t c.args.code.now r.0 c.args.standing.now c.in-Running.stepper r.1 c.in-Running.is) r.3).0.first

pub contents_back-requires-clause-shows : goal.contents_back-requires-clause-shows
contents_back-requires-clause-shows g c =
    let t = program_of c.args.book.now.program in
    let r = c.requires.runs in
    let done = c.in-Done.ensures.tells t r.0 c.args.class (runs-of t c.args.code.now r.0 c.args.standing.now c.in-Running.stepper r.1 c.in-Running.is) r.3 in
    (c.args.code.now, (one_more t.classes r.0).state, r.4, done.0.shows)

pub unreachable-requires-in-InputFault : goal.unreachable-requires-in-InputFault
unreachable-requires-in-InputFault g c =
    let t = program_of c.args.book.now.program in
    let r = c.requires.runs in
    c.in-InputFault.ensures.tells t r.0 c.args.class (runs-of t c.args.code.now r.0 c.args.standing.now c.in-Running.stepper r.1 c.in-Running.is) r.3

pub returns-in-Running-outcome-clause-came : goal.returns-in-Running-outcome-clause-came
returns-in-Running-outcome-clause-came g c = λ r stands on first next.
    let t = program_of c.args.book.now.program in
    let told = c.in-Running-outcome.ensures.tells t r c.args.class
    (runs-of t c.args.code.now r c.args.standing.now c.in-Running.stepper stands c.in-Running.is) first in
    ((one_more t.classes r, refl, told.0), told.0.ending, told.1)

pub returns-in-Printed-clause-came : goal.returns-in-Printed-clause-came
returns-in-Printed-clause-came g c = λ r stands on first next.
    let t = program_of c.args.book.now.program in
    let told = c.in-Printed.ensures.tells t r c.args.class
    (runs-of t c.args.code.now r c.args.standing.now c.in-Running.stepper stands c.in-Running.is) first in
    ((one_more t.classes r, refl, told.0), told.0.ending, told.1)

pub returns-in_ok-back-in-Done-clause-came : goal.returns-in_ok-back-in-Done-clause-came
returns-in_ok-back-in-Done-clause-came g c = λ r stands on first next.
    let t = program_of c.args.book.now.program in
    let told = c.in-Done.ensures.tells t r c.args.class
    (runs-of t c.args.code.now r c.args.standing.now c.in-Running.stepper stands c.in-Running.is) first in
    let fields = fields_of t.classes c.args.class in
    let then = one_more t.classes r in (
      (then, refl, told.0.ending),
      λ ns cs. ap (λ z. put ns z cs) (c.in_ok-back-in-Done.ensures c.args.code.now then.state next told.0.shows
          ∙ ap (λ e. left_by fields then.state e ns) (sym told.0.ending)),
      told.1,
    )

pub returns-in-Trap-clause-came : goal.returns-in-Trap-clause-came
returns-in-Trap-clause-came g c = λ r stands on first next.
    let t = program_of c.args.book.now.program in
    let told = c.in-Trap.ensures.tells t r c.args.class
    (runs-of t c.args.code.now r c.args.standing.now c.in-Running.stepper stands c.in-Running.is) first in
    let fields = fields_of t.classes c.args.class in
    let then = one_more t.classes r in (
      (then, refl, told.0),
      λ ns cs. ap (λ z. put ns (map content_in z) cs) c.new.ensures.items ∙ put-none ns cs
          ∙ ap (λ e. put ns (left_by fields then.state e ns) cs) (sym told.0),
      told.1,
    )

pub returns-in-Running-outcome-clause-asks : goal.returns-in-Running-outcome-clause-asks
returns-in-Running-outcome-clause-asks g c = λ r stands.
    c.in-Running-outcome.ensures.asks (program_of c.args.book.now.program) r
    (runs-of (program_of c.args.book.now.program) c.args.code.now r c.args.standing.now c.in-Running.stepper stands c.in-Running.is) (λ e. cc)

pub returns-in-Printed-clause-asks : goal.returns-in-Printed-clause-asks
returns-in-Printed-clause-asks g c = λ r stands.
    c.in-Printed.ensures.asks (program_of c.args.book.now.program) r
    (runs-of (program_of c.args.book.now.program) c.args.code.now r c.args.standing.now c.in-Running.stepper stands c.in-Running.is) (λ e. cc)

pub returns-in_ok-back-in-Done-clause-asks : goal.returns-in_ok-back-in-Done-clause-asks
returns-in_ok-back-in-Done-clause-asks g c = λ r stands.
    c.in-Done.ensures.asks (program_of c.args.book.now.program) r
    (runs-of (program_of c.args.book.now.program) c.args.code.now r c.args.standing.now c.in-Running.stepper stands c.in-Running.is) (λ e. cc)

pub returns-in-Trap-clause-asks : goal.returns-in-Trap-clause-asks
returns-in-Trap-clause-asks g c = λ r stands.
    c.in-Trap.ensures.asks (program_of c.args.book.now.program) r
    (runs-of (program_of c.args.book.now.program) c.args.code.now r c.args.standing.now c.in-Running.stepper stands c.in-Running.is) (λ e. cc)
