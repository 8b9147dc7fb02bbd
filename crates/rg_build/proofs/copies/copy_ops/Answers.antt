use Rattle.std.proofs.Common.{ℕ, sym, subst, length}
use Rattle.rg_spell.specs.Spelling.{FitsOp}
use Rattle.rg_build.specs.Inner.Near.{IsNear}
use Rattle.rg_build.proofs.Counting.{all-at, all-taken}
use Rattle.rg_build.proofs.Copying.{ops-turn}
use Rattle.rg_build.proofs.copies.copy_ops.Goals as goal

pub fit-requires-clause-near : goal.fit-requires-clause-near
fit-requires-clause-near c =
    let ops = c.args.code.now.ops in
    subst (λ (n : ℕ). IsNear n c.get-op.result) (sym c.len-count.ensures)
    (all-at (IsNear (length ops)) ops c.loop-at.at c.get-op.result c.get-op.ensures c.requires.near)

pub loop-at-preserved : goal.loop-at-preserved
loop-at-preserved c = (
  ops-turn c.args.code.now c.args.copy.now c.loop-at.copy c.push.new.self c.loop-at.at c.get-op.result c.get-op.ensures c.loop-at.invariant.0
      c.in_ok-push.ensures.ok,
  all-taken FitsOp c.args.code.now.ops c.loop-at.at c.get-op.result c.get-op.ensures c.loop-at.invariant.1 c.fit.ensures,
)
