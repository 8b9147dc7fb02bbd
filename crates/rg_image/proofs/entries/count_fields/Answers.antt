use Rattle.rg_image.proofs.Counts.{field-next}
use Rattle.rg_image.proofs.entries.count_fields.Goals as goal

pub loop-k-preserved : goal.loop-k-preserved
loop-k-preserved c = λ all rest.
    let fields = c.args.fields.now in
    let k = c.loop-k.k in
    let at = c.at-value.ensures in
    c.loop-k.invariant all (field-next c.args.cells.now c.args.own fields k c.at-value.result c.loop-k.counts.items
    c.count_value.new.counts.items at c.count_value.ensures all rest)
