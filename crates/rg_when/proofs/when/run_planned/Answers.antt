use Rattle.std.proofs.Common.{Ok, Err, arith}
use Rattle.rg_tree.specs.Rows.RowTrees.{program_of}
use Rattle.rg_when.specs.Scheduled.{schedule_answer}
use Rattle.rg_when.proofs.Input.{on-input}
use Rattle.rg_when.proofs.Settled.{nothing-written, comes-as, comes-runs, none-does, put-does, put-settles, stop-does, stop-settles}
use Rattle.rg_when.proofs.Settled.{stop-caused, put-caused}
use Rattle.rg_when.proofs.when.run_planned.Goals as goal

pub returns-in_default-clause-settles : goal.returns-in_default-clause-settles
returns-in_default-clause-settles g c =
    nothing-written (schedule_answer (program_of c.args.accepted.now.program) c.args.plan.now c.args.images.items c.args.keep)
    (g.I.Source.left c.args.input.now) (g.O.Sink.taken c.args.out.now)

pub returns-in_default-clause-does : goal.returns-in_default-clause-does
returns-in_default-clause-does g c =
    none-does (program_of c.args.accepted.now.program) c.args.plan.now c.args.images.items c.args.keep (g.I.Source.left c.args.input.now)
    (g.O.Sink.taken c.args.out.now)

pub put_behind-requires-clause-behind : goal.put_behind-requires-clause-behind
put_behind-requires-clause-behind g c =
    let t = program_of c.args.accepted.now.program in
    let told = on-input _ _ _ _ _ c.new-numbers.ensures c.run_counted-ran.ensures.follows c.run_counted-ran.ensures.run in
    let ran = comes-as t c.in-Ok.code c.args.plan.now c.args.images.items (g.I.Source.left c.args.input.now) c.run_counted-ran.result
    (Ok c.in-Ok-ran.behind) _ _ c.in-Ok-ran.is told in
    (t, c.in-Ok.code, c.args.images.items, ran.2.1.0.0, ran.2.1.0.2)

pub returns-in-Ok-ran-clause-settles : goal.returns-in-Ok-ran-clause-settles
returns-in-Ok-ran-clause-settles g c =
    let t = program_of c.args.accepted.now.program in
    let told = on-input _ _ _ _ _ c.new-numbers.ensures c.run_counted-ran.ensures.follows c.run_counted-ran.ensures.run in
    let ran = comes-as t c.in-Ok.code c.args.plan.now c.args.images.items (g.I.Source.left c.args.input.now) c.run_counted-ran.result
    (Ok c.in-Ok-ran.behind) _ _ c.in-Ok-ran.is told in
    put-settles t c.args.plan.now c.args.images.items c.args.keep (g.I.Source.left c.args.input.now) ran.2.1.0.0 c.put_behind.result
    (g.O.Sink.taken c.args.out.now) (g.O.Sink.taken c.put_behind.new.out) (ran.0, ran.1, ran.2.1.0.1)
    (c.put_behind.ensures.put t c.in-Ok.code c.args.images.items ran.2.1.0.0 ran.2.1.0.2)

pub returns-in-Ok-ran-clause-does : goal.returns-in-Ok-ran-clause-does
returns-in-Ok-ran-clause-does g c =
    let t = program_of c.args.accepted.now.program in
    let told = on-input _ _ _ _ _ c.new-numbers.ensures c.run_counted-ran.ensures.follows c.run_counted-ran.ensures.run in
    let ran = comes-as t c.in-Ok.code c.args.plan.now c.args.images.items (g.I.Source.left c.args.input.now) c.run_counted-ran.result
    (Ok c.in-Ok-ran.behind) _ _ c.in-Ok-ran.is told in
    put-does t c.in-Ok.code c.args.plan.now c.args.images.items c.args.keep (g.I.Source.left c.args.input.now) c.in-Ok-ran.behind c.put_behind.result
    (g.O.Sink.taken c.args.out.now) (g.O.Sink.taken c.put_behind.new.out) _ _ ran
    (c.put_behind.ensures.put t c.in-Ok.code c.args.images.items ran.2.1.0.0 ran.2.1.0.2)

pub returns-in-Ok-ran-clause-caused : goal.returns-in-Ok-ran-clause-caused
returns-in-Ok-ran-clause-caused g c =
    put-caused _ c.run_counted-ran.result c.in-Ok-ran.behind _ _ _ _ c.in-Ok-ran.is c.run_counted-ran.ensures.quiet
    c.run_counted-ran.ensures.never_falls c.put_behind.ensures.caused

pub returns-clause-settles : goal.returns-clause-settles
returns-clause-settles g c =
    let t = program_of c.args.accepted.now.program in
    let told = on-input _ _ _ _ _ c.new-numbers.ensures c.run_counted-ran.ensures.follows c.run_counted-ran.ensures.run in
    let ran = comes-as t c.in-Ok.code c.args.plan.now c.args.images.items (g.I.Source.left c.args.input.now) c.run_counted-ran.result
    (Err c.in-Err.stop) _ _ c.in-Err.is told in
    rw c.status_of.ensures
    (stop-settles t c.in-Ok.code c.args.plan.now c.args.images.items c.args.keep (g.I.Source.left c.args.input.now) (g.O.Sink.taken c.args.out.now)
    c.in-Err.stop (comes-runs t c.in-Ok.code c.args.plan.now c.args.images.items (g.I.Source.left c.args.input.now) (Err c.in-Err.stop) _ _ ran))

pub returns-clause-does : goal.returns-clause-does
returns-clause-does g c =
    let t = program_of c.args.accepted.now.program in
    let told = on-input _ _ _ _ _ c.new-numbers.ensures c.run_counted-ran.ensures.follows c.run_counted-ran.ensures.run in
    let ran = comes-as t c.in-Ok.code c.args.plan.now c.args.images.items (g.I.Source.left c.args.input.now) c.run_counted-ran.result
    (Err c.in-Err.stop) _ _ c.in-Err.is told in
    rw c.status_of.ensures
    (stop-does t c.in-Ok.code c.args.plan.now c.args.images.items c.args.keep (g.I.Source.left c.args.input.now) (g.O.Sink.taken c.args.out.now)
    c.in-Err.stop _ _ ran)

pub returns-clause-caused : goal.returns-clause-caused
returns-clause-caused g c =
    rw c.status_of.ensures
    (stop-caused c.run_counted-ran.result c.in-Err.stop _ _ _ c.in-Err.is c.run_counted-ran.ensures.fault c.run_counted-ran.ensures.quiet
    c.run_counted-ran.ensures.never_falls (omega arith))
