use Rattle.std.proofs.Common.{sym}
use Rattle.std.proofs.lemmas.List.{map_more}
use Rattle.rg_module.specs.Follows.{start}
use Rattle.rg_module.proofs.follows.starts.Goals as goal

pub loop-ty-preserved : goal.loop-ty-preserved
loop-ty-preserved c =
    rw (c.in-Ok.ensures.items, c.loop-ty.invariant, c.start.ensures)
    (sym (map_more start c.args.types.now c.loop-ty.ty-index _ c.loop-ty-test.true))
