use Rattle.std.proofs.Common.{◌++◌, ◌∷◌, [], ap, ◌∙◌}
use Rattle.rg_cells.specs.Table.{body_at}
use Rattle.rg_heap.specs.Answers.{val_of}
use Rattle.rg_heap.specs.Reads.{fields_of}
use Rattle.rg_heap.proofs.Readers.{shown_more, field_read}
use Rattle.rg_heap.proofs.reading.vals.Goals as goal

pub loop-k-preserved : goal.loop-k-preserved
loop-k-preserved c =
    let h = c.args.cells.now.heap in
    let ws = fields_of (body_at h c.args.slot) in
    c.in_ok-push.ensures.ok
    ∙ ap (λ vs. vs ++ c.val.result ∷ []) c.loop-k.invariant
    ∙ rw (c.val.ensures) (shown_more (val_of h) ws c.loop-k.k c.field.result
    (field_read (body_at h c.args.slot) c.loop-k.k c.field.result c.field.ensures))
