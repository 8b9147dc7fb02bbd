use Rattle.std.proofs.Common.{None, refl, arith}
use Rattle.rg_heap_tests.proofs.frames.is_laid_out.Goals as goal

pub set_shown-requires : goal.set_shown-requires
set_shown-requires c =
    rw (c.set_slot.ensures, c.in_ok-begin.ensures.ok) (record { number = 0; region = 5; owner = None; base = 0 }, refl, omega arith)
