use Rattle.std.proofs.Common.{arith}
use Rattle.rg_frames.proofs.Taken.{longer-on, more-slots}
use Rattle.rg_frames.proofs.Unwriting.{lies-slots}
use Rattle.rg_frames.proofs.frames.Frames.reserve.Goals as goal

pub invariant_of-self : goal.invariant_of-self
invariant_of-self c =
    let b = more-slots _ _ _ _ c.self.invariant.2 c.lengthen.ensures.nil in (
      rw b.0 (lies-slots _ _ _ _ _ _ (omega arith) c.self.invariant.0),
      rw b.0 c.self.invariant.1,
      b.1,
      longer-on _ _ _ _ _ c.lengthen.ensures.nil c.self.invariant.3,
    )

pub invariant_of-self-2 : goal.invariant_of-self-2
invariant_of-self-2 c =
    let b = more-slots _ _ _ _ c.self.invariant.2 c.lengthen.ensures.nil in (
      rw (b.0, c.reserve.ensures.items) (lies-slots _ _ _ _ _ _ (omega arith) c.self.invariant.0),
      rw (b.0, c.reserve.ensures.items) c.self.invariant.1,
      b.1,
      λ full. omega (arith, c.in-Ok.ensures.room),
    )

pub invariant_of-self-in_default-reserve : goal.invariant_of-self-in_default-reserve
invariant_of-self-in_default-reserve c =
    let b = more-slots _ _ _ _ c.self.invariant.2 c.lengthen.ensures.nil in (
      rw (b.0, c.reserve.ensures.items) (lies-slots _ _ _ _ _ _ (omega arith) c.self.invariant.0),
      rw (b.0, c.reserve.ensures.items) c.self.invariant.1,
      b.1,
      λ full. omega (arith, c.in-Ok.ensures.room),
    )
