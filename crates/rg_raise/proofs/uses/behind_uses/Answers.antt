use Rattle.std.proofs.Common.{sym, ◌∙◌}
use Rattle.rg_raise.proofs.Using.{clearing-on, clearing-over}
use Rattle.rg_raise.proofs.uses.behind_uses.Goals as goal

pub loop-at-preserved-else-branch-slot : goal.loop-at-preserved-else-branch-slot
loop-at-preserved-else-branch-slot c =
    clearing-on c.loop-at.invariant c.loop-at-test.true c.in-Some.slot c.in_ok-clear_at.field-0 (sym c.use_at.ensures ∙ c.in-Some.is)
    (sym c.clear_at.ensures.told ∙ c.in_ok-clear_at.was) c.if-branch-slot.false

pub loop-at-preserved : goal.loop-at-preserved
loop-at-preserved c = clearing-over c.loop-at.invariant c.loop-at-test.true (sym c.use_at.ensures ∙ c.in_default.is)
