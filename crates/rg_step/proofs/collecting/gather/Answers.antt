use Rattle.rg_step.proofs.Callers.Serve.{told-some}
use Rattle.rg_step.proofs.collecting.gather.Goals as goal

pub unreachable-requires : goal.unreachable-requires
unreachable-requires g c =
    told-some c.args.slides c.args.p.now c.collect.new.p c.requires.collects c.in_default.ensures.told
