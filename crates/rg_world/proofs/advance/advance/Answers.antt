use Rattle.std.proofs.Common.{sym, ◌∙◌, subst, arith}
use Rattle.rg_tree.specs.Rows.RowTrees.{program_of}
use Rattle.rg_rules.specs.Types.{fields_of}
use Rattle.rg_sched_atomic.specs.Events.{one_more}
use Rattle.rg_world.specs.Inner.Steps.{CameTo}
use Rattle.rg_world.proofs.advance.advance.Goals as goal

pub step_on-requires-clause-runs : goal.step_on-requires-clause-runs
step_on-requires-clause-runs g c = c.requires.runs

pub returns-in-On-clause-goes : goal.returns-in-On-clause-goes
returns-in-On-clause-goes g c = λ r n is on first next.
    let t = program_of c.args.book.now.program in
    let came = subst (λ z. CameTo t c.args.code.now r.state.output (fields_of t.classes c.args.class) (one_more t.classes r) c.step_on.new.standing z) c.in-On.is
    (c.in_ok-stepped.ensures.came r is.standing on first next) in
    (came.1, record { standing = came.0; printed = is.printed ∙ sym came.2; turns_are = omega (arith, is.turns_are) })

pub returns-in-Ended-clause-goes : goal.returns-in-Ended-clause-goes
returns-in-Ended-clause-goes g c = λ r n is on first next.
    let t = program_of c.args.book.now.program in
    let came = subst (λ z. CameTo t c.args.code.now r.state.output (fields_of t.classes c.args.class) (one_more t.classes r) c.step_on.new.standing z) c.in-Ended.is
    (c.in_ok-stepped.ensures.came r is.standing on first next) in
    (came.1, record { standing = came.0; printed = is.printed ∙ sym came.2; turns_are = omega (arith, is.turns_are) })
