use Rattle.std.proofs.Common.{◌≡◌, ◌<◌, ◌^◌, max, arith}
use Rattle.rg_code.specs.Lowering.{above}
use Rattle.rg_lower.proofs.BodySteps.{All-there, slots-step}
use Rattle.rg_lower.proofs.counts.slots_behind.Goals as goal

pub least_above-requires : goal.least_above-requires
least_above-requires c =
    All-there (λ o. above o < 2 ^ 32) c.args.code.now.ops c.loop-at.at c.get.result c.get.ensures c.requires.low

pub loop-at-preserved : goal.loop-at-preserved
loop-at-preserved c =
    let n : c.greater-most.result ≡ max c.loop-at.most (above c.get.result) =
    omega (arith, c.greater-most.ensures, c.least_above.ensures) in (
      omega (arith, c.loop-at-test.true, c.len.ensures),
      slots-step c.args.given c.args.code.now.ops c.loop-at.at c.get.result c.loop-at.most _ _ c.get.ensures c.loop-at.invariant.1 n,
    )
