use Rattle.std.proofs.Common.{◌≡◌, ◌∙◌, refl, sym, ap, subst, length}
use Rattle.rg_code.specs.Code.{Code}
use Rattle.rg_code.specs.Shapes.{IsMark}
use Rattle.rg_build.proofs.LayingSteps.{skip-more}
use Rattle.rg_build.proofs.laying.Laying.skip.Goals as goal

pub loop-self-preserved : goal.loop-self-preserved
loop-self-preserved c =
    let n : c.len.result ≡ length c.loop-self.self.module.code.ops = c.len.ensures ∙ ap (λ (d : Code). length d.ops) c.code.ensures in
    skip-more c.args.self.now c.loop-self.self _ c.loop-self.invariant (rw n at c.loop-self-test.true)
    (λ mark. c.begins.ensures.none c.if-begins.false
    (subst (λ (d : Code). IsMark d.ops c.loop-self.self.at) (sym c.code-in-loop-self.ensures) mark)) refl
