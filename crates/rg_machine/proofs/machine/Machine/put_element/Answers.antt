use Rattle.rg_machine.proofs.Placed.{put-there-is}
use Rattle.rg_machine.proofs.machine.Machine.put_element.Goals as goal

pub returns-clause-put : goal.returns-clause-put
returns-clause-put c =
    (c.put_into.ensures.put (put-there-is c.put_into.result c.args.self.now c.args.r c.args.index c.args.w c.requires.given
    (λ e. (c.put_into.ensures.lacks e).0))).1
