use Rattle.std.proofs.Common.{sym, ◌∙◌, arith}
use Rattle.rg_plan.proofs.OwnedSteps.{owned-next, owned-other, owned-end}
use Rattle.rg_plan.proofs.owned.owns.Goals as goal

pub returns-in_default : goal.returns-in_default
returns-in_default c =
    sym (sym c.loop-k.invariant.same
    ∙ owned-other c.args.book.now.program c.members_of-members.result.now c.loop-k.k-index c.args.cowns.now c.loop-k.rest.now
    c.loop-k-test.true c.in_default.ensures.matched)

pub loop-k-preserved : goal.loop-k-preserved
loop-k-preserved c = record {
  same = sym (owned-next c.args.book.now.program c.members_of-members.result.now c.loop-k.k-index c.args.cowns.now c.loop-k.rest.now
      c.in-Some.behind.now c.loop-k-test.true c.in-Some.ensures.matched)
      ∙ c.loop-k.invariant.same;
  numbers = c.in-Some.ensures.below;
}

pub returns : goal.returns
returns c =
    c.no_numbers.ensures
    ∙ owned-end c.args.book.now.program c.members_of-members.result.now c.loop-k.k-index c.args.cowns.now c.loop-k.rest.now _
    (omega (arith, c.loop-k-test.false)) c.loop-k.invariant.same c.loop-k.invariant.numbers
