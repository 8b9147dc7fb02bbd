use Rattle.std.proofs.Common.{arith, sym, ◌∙◌, ap}
use Rattle.rg_cells.specs.Table.{Heap, field_at}
use Rattle.rg_count.proofs.RootsFlagged.{among-more}
use Rattle.rg_count.proofs.roots.flag_fields.Goals as goal

pub loop-k-preserved : goal.loop-k-preserved
loop-k-preserved g c =
    let i = c.loop-k.invariant.0 in (
      among-more c.args.cells.now.heap c.args.region (λ k. field_at c.args.cells.now.heap c.args.slot k) c.loop-k.k
          c.look-w.result
          c.args.cells.now c.loop-k.cells c.flag.new.cells
          (ap (λ (z : Heap). field_at z c.args.slot c.loop-k.k) (sym i.heap) ∙ c.look-w.ensures.value) i c.flag.ensures,
      omega (arith, c.loop-k.invariant.1, c.look-w.ensures.cost),
    )
