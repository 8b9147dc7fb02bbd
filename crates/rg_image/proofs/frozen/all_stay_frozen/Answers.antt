use Rattle.std.proofs.Common.{sym, ◌∙◌}
use Rattle.rg_cown.specs.Cargo.{stays_frozen}
use Rattle.rg_typed.proofs.OneByOne.{all-next, all-stops}
use Rattle.rg_image.proofs.frozen.all_stay_frozen.Goals as goal

pub returns-then-not-stays_frozen : goal.returns-then-not-stays_frozen
returns-then-not-stays_frozen c =
    let fields = c.args.fields.now in
    let k = c.loop-k.k in
    let at = c.at-value.ensures in
    sym (all-stops (stays_frozen c.args.cells.now) fields k c.at-value.result at (sym c.if-not-stays_frozen.ensures))
    ∙ c.loop-k.invariant

pub loop-k-preserved : goal.loop-k-preserved
loop-k-preserved c =
    let fields = c.args.fields.now in
    let k = c.loop-k.k in
    let at = c.at-value.ensures in
    sym (all-next (stays_frozen c.args.cells.now) fields k c.at-value.result at (sym c.if-not-stays_frozen.ensures))
    ∙ c.loop-k.invariant
