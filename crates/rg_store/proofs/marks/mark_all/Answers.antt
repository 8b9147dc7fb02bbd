use Rattle.std.proofs.Common.{subst, arith}
use Rattle.std.proofs.lemmas.List.{take_all}
use Rattle.rg_store.specs.Inner.Found.{FindsToo}
use Rattle.rg_store.proofs.Subregions.{FindsToo-none, FindsToo-next}
use Rattle.rg_store.proofs.marks.mark_all.Goals as goal

pub loop-region-init : goal.loop-region-init
loop-region-init c = FindsToo-none c.args.found.now c.requires.fit

pub returns : goal.returns
returns c =
    subst (λ q. FindsToo c.args.found.now c.loop-region.found q)
    (take_all c.loop-region.region-index c.args.regions.now (omega (arith, c.loop-region-test.false))) c.loop-region.invariant

pub loop-region-preserved : goal.loop-region-preserved
loop-region-preserved c =
    FindsToo-next c.args.found.now c.loop-region.found c.mark.new.found c.args.regions.now c.loop-region.region-index
    (omega (arith, c.loop-region-test.true)) c.loop-region.invariant c.in_ok-mark.ensures
