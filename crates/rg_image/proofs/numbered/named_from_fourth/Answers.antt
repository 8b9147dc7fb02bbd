use Rattle.std.proofs.Common.{sym, ◌∙◌, arith}
use Rattle.rg_image.proofs.NumbersGiven.{in-next, in-stops, no-more}
use Rattle.rg_image.proofs.numbered.named_from_fourth.Goals as goal

pub returns-in_default : goal.returns-in_default
returns-in_default c =
    let fields = c.args.fields.now in
    let k = c.loop-k.k in
    let at = c.at-value.ensures in
    sym (in-stops fields k c.loop-k.last c.at-value.result at (sym c.in_default.ensures)) ∙ c.loop-k.invariant

pub loop-k-preserved : goal.loop-k-preserved
loop-k-preserved c =
    let fields = c.args.fields.now in
    let k = c.loop-k.k in
    let at = c.at-value.ensures in
    sym (in-next fields k c.loop-k.last c.in-Some.next c.at-value.result at (sym c.in-Some.ensures)) ∙ c.loop-k.invariant

pub returns : goal.returns
returns c =
    no-more c.args.fields.now c.loop-k.k c.loop-k.last (omega (arith, c.loop-k-test.false, c.len-k-end.ensures)) ∙ c.loop-k.invariant
