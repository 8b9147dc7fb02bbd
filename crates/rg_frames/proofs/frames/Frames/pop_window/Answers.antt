use Rattle.std.proofs.Common.{arith}
use Rattle.rg_frames.proofs.Rising.{lies-pop}
use Rattle.rg_frames.proofs.frames.Frames.pop_window.Goals as goal

pub invariant_of-self : goal.invariant_of-self
invariant_of-self c =
    rw (c.truncate.ensures.items, c.truncate-2.ensures.items, c.len.ensures, c.len-2.ensures)
    (lies-pop _ _ _ (grind arith) (grind arith) c.self.invariant.0, c.self.invariant.1, c.self.invariant.2, c.self.invariant.3)
