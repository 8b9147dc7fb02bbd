use Rattle.rg_build.proofs.LayingSteps.{put-mark, mark-here}
use Rattle.rg_build.proofs.laying.Laying.put.Goals as goal

pub set_map-requires : goal.set_map-requires
set_map-requires c =
    mark-here c.skip.new.self c.code.result.now c.len.result c.len.ensures c.code.ensures c.if-at-len.false c.skip.ensures.mark

pub returns : goal.returns
returns c =
    put-mark c.args.self.now c.skip.new.self c.set_map.new.self c.args.map c.skip.ensures.same
    (mark-here c.skip.new.self c.code.result.now c.len.result c.len.ensures c.code.ensures c.if-at-len.false c.skip.ensures.mark)
    c.in_ok-set_map.ensures.ok
