use Rattle.std.proofs.Common.{◌≤◌, length, subst}
use Rattle.rg_store.proofs.Link.{links-turn}
use Rattle.rg_store.proofs.links.add_links.Goals as goal

pub loop-member-preserved : goal.loop-member-preserved
loop-member-preserved c =
    let values_is = c.deref.ensures.value in
    record {
      within = subst (λ vs. c.in_ok-before.before ≤ length vs) values_is c.in_ok-before.ensures.within;
      links = links-turn _ _ c.members_of-numbers.result.now c.loop-member.member-index _ _ _ _ _ _ _ c.loop-member-test.true values_is
          c.in_ok-before.ensures.added c.loop-member.invariant.links;
    }
