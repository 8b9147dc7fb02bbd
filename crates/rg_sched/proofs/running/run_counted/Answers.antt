use Rattle.std.proofs.Common.{◌<◌, ◌≤◌, inl, inr, Bool, ℕ, length, Option, Ok, Err, refl, ◌∙◌, ap, subst, ◌+◌, arith}
use Rattle.std.proofs.lemmas.Result.{err_from_is_err_and}
use Rattle.rg_input.specs.Numbers.{OnInput, Looks}
use Rattle.rg_tree.specs.Rows.RowTrees.{program_of}
use Rattle.rg_sched.specs.Inner.Runs.{Names}
use Rattle.rg_sched.specs.declared.limits.TheConstants.{SCHEDULE}
use Rattle.rg_sched.proofs.Numbered.{starts, ends, long, bad, goes_on, still-memory, then-cut, both-cut}
use Rattle.rg_sched.proofs.running.run_counted.Goals as goal

pub returns-in_err-world-clause-run : goal.returns-in_err-world-clause-run
returns-in_err-world-clause-run g c =
    let p = err_from_is_err_and c.from_residual.result c.from_residual.ensures.1 in
    still-memory (program_of c.args.accepted.now.program) c.args.code.now c.args.plan.now c.args.images.items
    c.args.schedule.now c.args.schedule.now (g.S.Source.left c.args.source.now) (g.S.Source.left c.args.source.now)
    c.from_residual.result p.0 _ _ p.1 p.2 refl refl

pub returns-in_err-more-clause-run : goal.returns-in_err-more-clause-run
returns-in_err-more-clause-run g c =
    let p = err_from_is_err_and c.from_residual-in_err-more.result c.from_residual-in_err-more.ensures.1 in
    then-cut c.args.schedule.now c.loop-taken.schedule c.more.new.self (g.S.Source.left c.args.source.now) (g.S.Source.left c.loop-taken.source)
    (g.S.Source.left c.more.new.source) c.loop-taken.taken c.loop-taken.world (Looks c.more.result) c.from_residual-in_err-more.result p.0 _ p.1
    (inr (p.2, refl)) c.loop-taken.invariant.so_far c.more.ensures.looks

pub returns-then-taken-ge-SCHEDULE-clause-run : goal.returns-then-taken-ge-SCHEDULE-clause-run
returns-then-taken-ge-SCHEDULE-clause-run g c =
    let now = c.loop-taken in
    let many : SCHEDULE ≤ now.taken = omega (arith, c.if-taken-ge-SCHEDULE.true) in
    let looks = subst (λ (b : Bool). OnInput now.schedule c.more.new.self (g.S.Source.left now.source) (g.S.Source.left c.more.new.source) (Looks (Ok b)))
    c.if-branch.true c.in_ok-more.ensures.looks in
    long c.args.schedule.now now.schedule c.more.new.self (g.S.Source.left c.args.source.now) (g.S.Source.left now.source)
    (g.S.Source.left c.more.new.source) now.taken now.world now.invariant.so_far many looks

pub returns-in_err-i-clause-run : goal.returns-in_err-i-clause-run
returns-in_err-i-clause-run g c =
    let now = c.loop-taken in
    let p = err_from_is_err_and c.from_residual-in_err-i.result c.from_residual-in_err-i.ensures.1 in
    both-cut c.args.schedule.now now.schedule c.more.new.self c.next_behaviour.new.schedule (g.S.Source.left c.args.source.now)
    (g.S.Source.left now.source) (g.S.Source.left c.more.new.source) (g.S.Source.left c.next_behaviour.new.source) now.taken now.world
    (Looks c.more.result) (Names (length c.args.plan.now.behaviours) c.next_behaviour.result) c.from_residual-in_err-i.result p.0 _ p.1
    (inr (p.2, refl))
    now.invariant.so_far c.more.ensures.looks c.next_behaviour.ensures.names

pub returns-in_default-clause-run : goal.returns-in_default-clause-run
returns-in_default-clause-run g c =
    let now = c.loop-taken in
    let less : now.taken < SCHEDULE = omega (arith, c.if-taken-ge-SCHEDULE.false) in
    let looks = subst (λ (b : Bool). OnInput now.schedule c.more.new.self (g.S.Source.left now.source) (g.S.Source.left c.more.new.source) (Looks (Ok b)))
    c.if-branch.true c.in_ok-more.ensures.looks in
    let names = subst (λ (o : Option ℕ). OnInput c.more.new.self c.next_behaviour.new.schedule (g.S.Source.left c.more.new.source)
    (g.S.Source.left c.next_behaviour.new.source) (Names (length c.args.plan.now.behaviours) (Ok o))) c.in_default.is c.in_ok-i.ensures.names in
    bad c.args.schedule.now now.schedule c.more.new.self c.next_behaviour.new.schedule (g.S.Source.left c.args.source.now) (g.S.Source.left now.source)
    (g.S.Source.left c.more.new.source) (g.S.Source.left c.next_behaviour.new.source) now.taken (now.taken + 1) now.world now.invariant.so_far less refl
    looks names

pub returns-in_err-world-2-clause-run : goal.returns-in_err-world-2-clause-run
returns-in_err-world-2-clause-run g c =
    let now = c.loop-taken in
    let p = err_from_is_err_and c.from_residual-in_err-world-2.result c.from_residual-in_err-world-2.ensures.1 in
    both-cut c.args.schedule.now now.schedule c.more.new.self c.next_behaviour.new.schedule (g.S.Source.left c.args.source.now)
    (g.S.Source.left now.source) (g.S.Source.left c.more.new.source) (g.S.Source.left c.next_behaviour.new.source) now.taken now.world
    (Looks c.more.result) (Names (length c.args.plan.now.behaviours) c.next_behaviour.result) c.from_residual-in_err-world-2.result p.0 _ p.1
    (inl p.2)
    now.invariant.so_far c.more.ensures.looks c.next_behaviour.ensures.names

pub returns-clause-run : goal.returns-clause-run
returns-clause-run g c =
    let now = c.loop-taken in
    let looks = subst (λ (b : Bool). OnInput now.schedule c.more.new.self (g.S.Source.left now.source) (g.S.Source.left c.more.new.source) (Looks (Ok b)))
    c.if-branch.false c.in_ok-more.ensures.looks in
    ends c.args.schedule.now now.schedule c.more.new.self (g.S.Source.left c.args.source.now) (g.S.Source.left now.source)
    (g.S.Source.left c.more.new.source) now.taken now.world now.invariant.so_far looks

pub loop-taken-preserved : goal.loop-taken-preserved
loop-taken-preserved g c =
    let now = c.loop-taken in
    let less : now.taken < SCHEDULE = omega (arith, c.if-taken-ge-SCHEDULE.false) in
    let looks = subst (λ (b : Bool). OnInput now.schedule c.more.new.self (g.S.Source.left now.source) (g.S.Source.left c.more.new.source) (Looks (Ok b)))
    c.if-branch.true c.in_ok-more.ensures.looks in
    let names = subst (λ (o : Option ℕ). OnInput c.more.new.self c.next_behaviour.new.schedule (g.S.Source.left c.more.new.source)
    (g.S.Source.left c.next_behaviour.new.source) (Names (length c.args.plan.now.behaviours) (Ok o))) c.in-Some.is c.in_ok-i.ensures.names in
    record {
      so_far = goes_on c.args.schedule.now now.schedule c.more.new.self c.next_behaviour.new.schedule (g.S.Source.left c.args.source.now)
          (g.S.Source.left now.source) (g.S.Source.left c.more.new.source) (g.S.Source.left c.next_behaviour.new.source) now.taken (now.taken + 1)
          c.in-Some.i now.world c.in_ok-world-2.world _ now.invariant.so_far less refl looks names
          (c.in_ok-world-2.ensures.shows c.args.images.items) (c.in_ok-world-2.ensures.asks c.args.images.items);
      follows = c.next_behaviour.ensures.follows;
      quiet = c.in_ok-i.ensures.quiet ∙ c.in_ok-more.ensures.quiet ∙ now.invariant.quiet;
      never_falls = omega (arith, now.invariant.never_falls, c.more.ensures.never_falls, c.next_behaviour.ensures.never_falls);
      tuned = (c.event.ensures.tuned.0 ∙ now.invariant.tuned.0, c.event.ensures.tuned.1 ∙ now.invariant.tuned.1);
    }

pub loop-taken-init : goal.loop-taken-init
loop-taken-init g c = record {
  so_far = starts c.args.schedule.now c.args.schedule.now (g.S.Source.left c.args.source.now) (g.S.Source.left c.args.source.now)
      c.in_ok-world.world _ refl refl (c.in_ok-world.ensures c.args.code.now c.requires.lowers);
  follows = c.requires.follows;
  quiet = refl;
  never_falls = omega arith;
  tuned = (refl, refl);
}

-- where it ends otherwise, no fault came

pub returns-in_err-world-clause-quiet : goal.returns-in_err-world-clause-quiet
returns-in_err-world-clause-quiet g c other = refl

pub returns-in_err-more-clause-quiet : goal.returns-in_err-more-clause-quiet
returns-in_err-more-clause-quiet g c other =
    let p = err_from_is_err_and c.from_residual-in_err-more.result c.from_residual-in_err-more.ensures.1 in absurd (other (p.1 ∙ ap Err p.2))

pub returns-then-taken-ge-SCHEDULE-clause-quiet : goal.returns-then-taken-ge-SCHEDULE-clause-quiet
returns-then-taken-ge-SCHEDULE-clause-quiet g c other = c.in_ok-more.ensures.quiet ∙ c.loop-taken.invariant.quiet

pub returns-in_err-i-clause-quiet : goal.returns-in_err-i-clause-quiet
returns-in_err-i-clause-quiet g c other =
    let p = err_from_is_err_and c.from_residual-in_err-i.result c.from_residual-in_err-i.ensures.1 in absurd (other (p.1 ∙ ap Err p.2))

pub returns-in_default-clause-quiet : goal.returns-in_default-clause-quiet
returns-in_default-clause-quiet g c other = c.in_ok-i.ensures.quiet ∙ c.in_ok-more.ensures.quiet ∙ c.loop-taken.invariant.quiet

pub returns-in_err-world-2-clause-quiet : goal.returns-in_err-world-2-clause-quiet
returns-in_err-world-2-clause-quiet g c other = c.in_ok-i.ensures.quiet ∙ c.in_ok-more.ensures.quiet ∙ c.loop-taken.invariant.quiet

pub returns-clause-quiet : goal.returns-clause-quiet
returns-clause-quiet g c other = c.in_ok-more.ensures.quiet ∙ c.loop-taken.invariant.quiet
